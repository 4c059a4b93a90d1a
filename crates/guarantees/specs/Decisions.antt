-- What is claimed of decisions: for what one is refused, and what a policy asks of one.
use Rattle.std.specs.Prelude.{ℕ, ◌≤◌, true, false, List, Contains, ◌≡◌, Ok, Err}
use Rattle.policy.specs.declared.effect.Effect.{Effect}
use Rattle.policy.specs.declared.epoch.Epoch.{Epoch}
use Rattle.policy.specs.Fault.{refusal}
use Rattle.policy.specs.Policy.{Policy, Rule}
use Rattle.policy.specs.Set.{ActionSet, EventSet, all_events, keeping, has_event, insert_event, events_below, no_actions, has_action, insert_action, union_actions, actions_below}
use Rattle.policy.specs.declared.fault.Fault.{Fault}
use Rattle.policy.specs.declared.fault.Refusal.{Refusal}
use Rattle.policy.specs.declared.mode.Mode.{Mode}
use Rattle.policy.specs.declared.number.Action.{Action}
use Rattle.policy.specs.declared.number.Event.{Event}
use Rattle.pdl.specs.Answer.{Answer, issues}
use Rattle.pdl.specs.Best.{LowestDifference, BestIn}
use Rattle.pdl.specs.Pdl.{Derives, Satisfies, Violated, MaximalIn, MaximalReduction, Reducible, ◌⊆◌, ◌⊑◌}
use Rattle.pdl.specs.Reduction.{kept_events, proposed_with}
use Rattle.pdl.specs.Yield as Yield
use Rattle.pdl.specs.Yield.{proposed, names_reserved}
use Rattle.epoch_line.specs.Epoch.{read_epoch}
use Rattle.acceptance.specs.Refusals.{OfEpoch}
use Rattle.image.specs.Held.{policy_in}
use Rattle.image.specs.Load.{load, Contents}
use Rattle.exactness.specs.Exact.{RefusalOf}
use Rattle.guarantees.specs.Machine.{next_epoch}

-- ---- when a decision is refused

-- for what a decision is refused: the image's fault comes first, then those of the line, and then 18, where it names an event that some
-- rule of the image's policy triggers
pub data RefusedFor (image line : List ℕ) (r : Refusal) : Type 0 where
  the_image : load image ≡ Err r → RefusedFor image line r
  the_line : (contents : Contents) → load image ≡ Ok contents → read_epoch line ≡ Err r → RefusedFor image line r
  the_reserved : (contents : Contents) → load image ≡ Ok contents → (e : Epoch) → read_epoch line ≡ Ok e → names_reserved (policy_in image).rules e ≡ true
      → r ≡ refusal Fault.ReservedEvent 0 → RefusedFor image line r

-- the same in either mode: in the second also where no reduction of the epoch is free of conflict
pub data RefusedIn (mode : Mode) (image : List ℕ) (pending : EventSet) (line : List ℕ) (r : Refusal) : Type 0 where
  as_first : RefusedFor image line r → RefusedIn mode image pending line r
  for_conflict : mode ≡ Mode.Events → (contents : Contents) → load image ≡ Ok contents → (e : Epoch) → next_epoch (policy_in image) pending line ≡ Ok e
      → ¬ Reducible (policy_in image).constraints (proposed_with (policy_in image).rules) e → r ≡ refusal Fault.Unavoidable 0
      → RefusedIn mode image pending line r

-- which refusals a decision has: those of an image of so many words, those of an epoch line, and 18
pub data OfDecision (words : ℕ) (r : Refusal) : Type 0 where
  of_image : RefusalOf words r → OfDecision words r
  of_line : OfEpoch r → OfDecision words r
  of_reserved : r ≡ refusal Fault.ReservedEvent 0 → OfDecision words r

-- in either mode, the second of which has one more
pub data OfDecisionIn (mode : Mode) (words : ℕ) (r : Refusal) : Type 0 where
  of_either : OfDecision words r → OfDecisionIn mode words r
  of_conflict : mode ≡ Mode.Events → r ≡ refusal Fault.Unavoidable 0 → OfDecisionIn mode words r

-- refused under one of 7 to 10, in no text, at location 0 and with empty sets
pub record CheckFailed (a : Answer) : Type 0 where
  pub is_refused : a.is_refused ≡ true
  pub from : 7 ≤ a.number
  pub upto : a.number ≤ 10
  pub text : a.text ≡ 0
  pub location : a.location ≡ 0
  pub accepts : a.accepted ≡ no_actions
  pub cancels : a.cancelled ≡ no_actions

-- refused under a number alone, in no text, at location 0 and with empty sets
pub record RefusedUnder (number : ℕ) (a : Answer) : Type 0 where
  pub is_refused : a.is_refused ≡ true
  pub under : a.number ≡ number
  pub text : a.text ≡ 0
  pub location : a.location ≡ 0
  pub accepts : a.accepted ≡ no_actions
  pub cancels : a.cancelled ≡ no_actions

-- not refused, with the number and the place of no fault
pub record NotRefused (a : Answer) : Type 0 where
  pub is_refused : a.is_refused ≡ false
  pub number : a.number ≡ 0
  pub text : a.text ≡ 0
  pub location : a.location ≡ 0

-- ---- triggered events

-- some rule triggers the event where all events of the epoch count, or by events where the kept ones do
abbrev pub IsTriggered : Mode → Policy → Epoch → Event → Type 0
IsTriggered Mode.Actions p e x = Derives p.rules (all_events e.events) e.readings (Effect.Triggers x)
IsTriggered Mode.Events p e x = Derives p.rules (keeping e.events (kept_events p e)) e.readings (Effect.Triggers x)

-- the image is taken, and the line is an epoch line and names an event that some rule triggers of the policy that the image holds
pub record NamesTriggered (image line : List ℕ) : Type 0 where
  pub contents : Contents
  pub taken : load image ≡ Ok contents
  pub epoch : Epoch
  pub read : read_epoch line ≡ Ok epoch
  pub event : Event
  pub named : has_event epoch.events event ≡ true
  pub rule : Rule
  pub listed : Contains (policy_in image).rules rule
  pub triggers : rule.effect ≡ Effect.Triggers event

-- ---- what the first mode decides, that of action cancellation

-- what a policy yields on an epoch
abbrev pub yield_of : Policy → Epoch → Answer
yield_of p e = issues (Yield.accepted p e) (Yield.cancelled p e)

-- what a policy asks of an answer to an epoch
pub record Obeys (p : Policy) (e : Epoch) (a : Answer) : Type 0 where
  pub issued : NotRefused a
  -- a maximal action cancellation: within what is proposed, with no constraint that holds, and maximal
  pub maximal : MaximalIn p.constraints e.readings (proposed p.rules e) a.accepted
  -- the cancelled actions are the others
  pub rest : union_actions a.accepted a.cancelled ≡ proposed p.rules e
  pub apart : (x : Action) → has_action a.cancelled x ≡ true → has_action a.accepted x ≡ false
  -- giving back one or more of them makes a constraint hold
  pub giving_back : (u : ActionSet) → a.accepted ⊆ u → u ⊆ proposed p.rules e → ¬ (u ≡ a.accepted)
      → Violated p.constraints e.readings u
  -- lower numbers are kept first: on the accepted actions under a cancelled one, together with it, some constraint holds
  pub lowest_first : (x : Action) → has_action a.cancelled x ≡ true
      → Violated p.constraints e.readings (insert_action (actions_below a.accepted x) x)
  -- where nothing clashes, nothing is cancelled
  pub conservative : Satisfies p.constraints e.readings (proposed p.rules e) → a.cancelled ≡ no_actions

-- what is accepted is the best choice: lower actions are the more important ones
pub record IsBest (p : Policy) (e : Epoch) (accepted : ActionSet) : Type 0 where
  -- the lowest action in which another set of proposed actions on which no constraint holds differs from it is accepted
  pub lowest : (u : ActionSet) → u ⊆ proposed p.rules e → Satisfies p.constraints e.readings u → (a : Action) → LowestDifference accepted u a
      → has_action accepted a ≡ true
  -- for each other such set there is one, and no other set has that property
  pub best : BestIn p.constraints e.readings (proposed p.rules e) accepted
  pub only : (s : ActionSet) → BestIn p.constraints e.readings (proposed p.rules e) s → s ≡ accepted

-- an action that a constraint of its own forbids: it is not accepted, and where it is proposed and the epoch is not refused, it is cancelled
pub record KeptOut (p : Policy) (e : Epoch) (x : Action) (a : Answer) : Type 0 where
  pub rejected : has_action a.accepted x ≡ false
  pub cancelled : a.is_refused ≡ false → has_action (proposed p.rules e) x ≡ true → has_action a.cancelled x ≡ true

-- ---- how many trials there are

-- the actions that were proposed, of which each was tried once
abbrev pub decided_actions : Answer → ActionSet
decided_actions a = union_actions a.accepted a.cancelled

-- ---- what the second mode decides, that of event cancellation

-- what a policy asks of an answer to an epoch of which these events are kept
pub record ObeysEvents (p : Policy) (e : Epoch) (kept : EventSet) (a : Answer) : Type 0 where
  pub issued : NotRefused a
  -- the kept events are a maximal reduction of the epoch that is free of conflict
  pub maximal : MaximalReduction p.constraints (proposed_with p.rules) e kept
  -- what they propose is accepted
  pub accepts : a.accepted ≡ proposed_with p.rules e kept
  -- every accepted action was proposed, and no constraint holds among them
  pub within : a.accepted ⊆ proposed p.rules e
  pub satisfies : Satisfies p.constraints e.readings a.accepted
  -- the cancelled actions are the others
  pub rest : union_actions a.accepted a.cancelled ≡ proposed p.rules e
  pub apart : (x : Action) → has_action a.cancelled x ≡ true → has_action a.accepted x ≡ false
  -- giving back one or more dropped events makes a constraint hold
  pub giving_back : (u : EventSet) → kept ⊑ u → u ⊑ e.events → ¬ (u ≡ kept) → Violated p.constraints e.readings (proposed_with p.rules e u)
  -- an event is dropped only for its own trial: the kept lower ones together with it conflict
  pub own_trial : (x : Event) → has_event e.events x ≡ true → has_event kept x ≡ false
      → Violated p.constraints e.readings (proposed_with p.rules e (insert_event (events_below kept x) x))
  -- where nothing clashes, no event is dropped and nothing is cancelled
  pub conservative : Satisfies p.constraints e.readings (proposed p.rules e) → (kept ≡ e.events) × (a.cancelled ≡ no_actions)
