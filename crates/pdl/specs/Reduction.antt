-- Event cancellation, the second mode: events of an epoch are dropped, with all that they cause. Which are kept, and which actions
-- are then issued and cancelled.
use Rattle.std.specs.Prelude.{ℕ, Bool, List}
use Rattle.policy.specs.declared.epoch.Epoch.{Epoch}
use Rattle.policy.specs.Policy.{Policy, Rule}
use Rattle.policy.specs.Set.{ActionSet, EventSet, keeping, no_events, actions_without, set_of}
use Rattle.pdl.specs.Greedy.{greedy}
use Rattle.pdl.specs.Yield.{proposals, triggers, proposed, conflict}

-- what the rules propose where these of the epoch's events are kept: absence is taken from the full epoch
abbrev pub proposed_with : List Rule → Epoch → EventSet → ActionSet
proposed_with rules e kept = proposals rules (keeping e.events kept) e.readings

-- and what they trigger
abbrev pub triggered_with : List Rule → Epoch → EventSet → EventSet
triggered_with rules e kept = triggers rules (keeping e.events kept) e.readings

module _ (p : Policy) (e : Epoch) where
  -- whether a constraint holds on it
  unfoldable pub clashes : EventSet → Bool
  clashes kept = conflict p.constraints e.readings (proposed_with p.rules e kept)

  -- events are tried by rising number, and each is kept unless the actions then proposed make a constraint hold
  unfoldable pub kept_events : EventSet
  kept_events = set_of (greedy (λ (kept : ℕ). clashes (set_of kept)) e.events.bits)

  -- what the kept events propose
  unfoldable pub issued : ActionSet
  issued = proposed_with p.rules e kept_events

  -- what they trigger
  unfoldable pub kept_triggers : EventSet
  kept_triggers = triggered_with p.rules e kept_events

  -- the cancelled actions: what the full epoch proposes and is not issued
  unfoldable pub withheld : ActionSet
  withheld = actions_without (proposed p.rules e) issued

  -- fault 17: already with no event kept
  unfoldable pub unavoidable : Bool
  unavoidable = clashes no_events
