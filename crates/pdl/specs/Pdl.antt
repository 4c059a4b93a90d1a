-- Definitions 4 to 11 of Chomicki, Lobo and Naqvi, "Conflict Resolution Using Logic Programming" (TKDE 2003), in its own terms, for
-- ground rules and an epoch that carries readings. Definitions and sections below are the paper's.
use Rattle.std.specs.Prelude.{Bool, true, false, ◌↔◌, ◌≡◌, ◌<◌, List, [], ◌∷◌, Contains}
use Rattle.policy.specs.Comparison.{comparison_holds}
use Rattle.policy.specs.Epoch.{InAlphabet}
use Rattle.policy.specs.declared.effect.Effect.{Effect}
use Rattle.policy.specs.declared.epoch.Epoch.{Epoch}
use Rattle.policy.specs.declared.epoch.Readings.{Readings}
use Rattle.policy.specs.Number.{set_limit}
use Rattle.policy.specs.Policy.{Rule, Constraint}
use Rattle.policy.specs.Set.{ActionSet, EventSet, has_event, all_events, keeping, has_action}
use Rattle.policy.specs.declared.comparison.Comparison.{Comparison}
use Rattle.policy.specs.declared.comparison.Literal.{Literal}
use Rattle.policy.specs.declared.line.Part.{Part}
use Rattle.policy.specs.declared.number.Action.{Action}
use Rattle.policy.specs.declared.number.Event.{Event}
use Rattle.policy.specs.declared.set.Events.{Events}

-- the condition of a rule or of a constraint: the conjunction of its comparisons (Definition 4)
abbrev pub Condition : Part → Readings → List Comparison → Type 0
Condition part rs cs = (c : Comparison) → Contains cs c → comparison_holds part rs c ≡ true

-- Definition 5: an event occurs in the epoch if it is a member, and `!e` occurs if `e` is not. Where events of the epoch are left
-- out, membership is taken from those that are present, and absence from all that occurred.
abbrev pub OccursAs : Bool → Type 0 → Type 0 → Type 0
OccursAs false present occurred = present
OccursAs true present occurred = ¬ occurred

abbrev pub Occurs : Events → Literal → Type 0
Occurs ev l = OccursAs l.negated (has_event ev.present l.event ≡ true) (has_event ev.occurred l.event ≡ true)

-- some rule has the effect, and all its literals and comparisons hold
pub record Derives (rules : List Rule) (ev : Events) (rs : Readings) (x : Effect) : Type 0 where
  pub rule : Rule
  pub listed : Contains rules rule
  pub effect : rule.effect ≡ x
  pub event : (l : Literal) → Contains rule.literals l → Occurs ev l
  pub condition : Condition Part.Rules rs rule.comparisons

-- what `occ` and `exec` may mean, and that an event is triggered
pub record Interpretation : Type 1 where
  pub occ : Literal → Type 0
  pub exec : Action → Type 0
  pub triggered : Event → Type 0

-- that a rule has its effect
abbrev pub has_its : Interpretation → Effect → Type 0
has_its I (Effect.Causes a) = I.exec a
has_its I (Effect.Triggers e) = I.triggered e

-- a model of the program of the rules, `exec(a) ← occ(e₁) ∧ … ∧ occ(eₗ) ∧ C` for each that causes `a`, the same with `triggered(e)` for
-- each that triggers `e`, and of `occ(E)`
pub record Model (rules : List Rule) (ev : Events) (rs : Readings) (I : Interpretation) : Type 0 where
  pub facts : (l : Literal) → Occurs ev l → I.occ l
  pub implications : (r : Rule) → Contains rules r → ((l : Literal) → Contains r.literals l → I.occ l) → Condition Part.Rules rs r.comparisons → has_its I r.effect

-- `exec(a)`, or `triggered(e)`, holds in every model
abbrev pub Entails : List Rule → Events → Readings → Effect → Type 1
Entails rules ev rs x = (I : Interpretation) → Model rules ev rs I → has_its I x

-- Definition 6: the transducer that the rules define
abbrev pub DefinedBy : List Rule → (Epoch → ActionSet) → Type 1
DefinedBy rules π = (e : Epoch) (a : Action) → a.0 < set_limit → (has_action (π e) a ≡ true) ↔ Entails rules (all_events e.events) e.readings (Effect.Causes a)

-- the events that the rules trigger: policy-defined events of Lobo, Bhatia and Naqvi, "A Policy Description Language" (AAAI 1999), which
-- occur in the next epoch
abbrev pub TriggeredBy : List Rule → (Epoch → EventSet) → Type 1
TriggeredBy rules τ = (e : Epoch) (x : Event) → x.0 < set_limit → (has_event (τ e) x ≡ true) ↔ Entails rules (all_events e.events) e.readings (Effect.Triggers x)

-- Definitions 7 and 8: a set satisfies a constraint if not all its actions are in the set while its condition holds
pub record HoldsOn (rs : Readings) (s : ActionSet) (c : Constraint) : Type 0 where
  pub members : (a : Action) → Contains c.actions a → has_action s a ≡ true
  pub condition : Condition Part.Constraints rs c.comparisons

-- some constraint holds on the set
pub record Violated (constraints : List Constraint) (rs : Readings) (s : ActionSet) : Type 0 where
  pub constraint : Constraint
  pub listed : Contains constraints constraint
  pub holds : HoldsOn rs s constraint

abbrev pub Satisfies : List Constraint → Readings → ActionSet → Type 0
Satisfies constraints rs s = (c : Constraint) → Contains constraints c → ¬ HoldsOn rs s c

-- a constraint with one action
abbrev pub of_one_action : Action → List Comparison → Constraint
of_one_action a cs = record { actions = a ∷ []; comparisons = cs }

-- and with no comparison
abbrev pub lone : Action → Constraint
lone a = of_one_action a []

-- each constraint has at least one action, as every line of a text has
abbrev pub NameActions : List Constraint → Type 0
NameActions constraints = (c : Constraint) → Contains constraints c → ¬ (c.actions ≡ [])

-- Definition 9: a monitor's output satisfies the constraints on every epoch
abbrev pub Monitor : List Constraint → (Epoch → ActionSet) → Type 0
Monitor constraints ω = (e : Epoch) → Satisfies constraints e.readings (ω e)

infix 4 ◌⊆◌
abbrev pub ◌⊆◌ : ActionSet → ActionSet → Type 0
s ⊆ t = (a : Action) → has_action s a ≡ true → has_action t a ≡ true

-- Definition 10: the output of the rules satisfies the constraints
abbrev pub Consistent : List Constraint → (Epoch → ActionSet) → Epoch → Type 0
Consistent constraints π e = Satisfies constraints e.readings (π e)

-- Definition 11.1
abbrev pub Conservative : List Constraint → (Epoch → ActionSet) → (Epoch → ActionSet) → Type 0
Conservative constraints π ω = (e : Epoch) → Consistent constraints π e → ω e ≡ π e

-- Definition 11.2
abbrev pub ActionCancellation : (Epoch → ActionSet) → (Epoch → ActionSet) → Type 0
ActionCancellation π ω = (e : Epoch) → ω e ⊆ π e

-- a maximal subset of t that satisfies the constraints
pub record MaximalIn (constraints : List Constraint) (rs : Readings) (t s : ActionSet) : Type 0 where
  pub within : s ⊆ t
  pub satisfies : Satisfies constraints rs s
  pub maximal : (u : ActionSet) → s ⊆ u → u ⊆ t → Satisfies constraints rs u → u ≡ s

-- Definition 11.3
abbrev pub MaximalActionCancellation : List Constraint → (Epoch → ActionSet) → (Epoch → ActionSet) → Type 0
MaximalActionCancellation constraints π ω = (e : Epoch) → MaximalIn constraints e.readings (π e) (ω e)

-- ---- reductions of an epoch: some of its events. The others are undefined, "neither the event nor its negation is known to have
-- occurred" (section 3.5).

infix 4 ◌⊑◌
abbrev pub ◌⊑◌ : EventSet → EventSet → Type 0
s ⊑ t = (x : Event) → has_event s x ≡ true → has_event t x ≡ true

-- Definition 6 where only some of the epoch's events are kept
abbrev pub DefinedOnKept : List Rule → (Epoch → EventSet → ActionSet) → Type 1
DefinedOnKept rules π = (e : Epoch) (kept : EventSet) (a : Action) → a.0 < set_limit → (has_action (π e kept) a ≡ true) ↔ Entails rules (keeping e.events kept) e.readings (Effect.Causes a)

-- the same of what they trigger
abbrev pub TriggeredByKept : List Rule → (Epoch → EventSet → EventSet) → Type 1
TriggeredByKept rules τ = (e : Epoch) (kept : EventSet) (x : Event) → x.0 < set_limit
    → (has_event (τ e kept) x ≡ true) ↔ Entails rules (keeping e.events kept) e.readings (Effect.Triggers x)

module _ (constraints : List Constraint) (π : Epoch → EventSet → ActionSet) where
  -- Definition 10: a consistent reduction
  pub record ConsistentReduction (e : Epoch) (kept : EventSet) : Type 0 where
    pub within : kept ⊑ e.events
    pub consistent : Satisfies constraints e.readings (π e kept)

  -- a maximal one: no other consistent reduction has all its events
  pub record MaximalReduction (e : Epoch) (kept : EventSet) : Type 0 where
    pub reduction : ConsistentReduction e kept
    pub maximal : (u : EventSet) → kept ⊑ u → ConsistentReduction e u → u ≡ kept

  -- "policies may not have *any* event-cancellation monitors" (section 3.5): an epoch may have no consistent reduction
  pub record Reducible (e : Epoch) : Type 0 where
    pub kept : EventSet
    pub reduction : ConsistentReduction e kept

  -- a set is what the rules define on some reduction of that sort
  pub record OnSome (Sort : EventSet → Type 0) (e : Epoch) (s : ActionSet) : Type 0 where
    pub kept : EventSet
    pub reduction : Sort kept
    pub same : s ≡ π e kept

  -- Definition 11.4, of the epochs that have a consistent reduction
  abbrev pub EventCancellation : (Epoch → ActionSet) → Type 0
  EventCancellation ω = (e : Epoch) → InAlphabet e → Reducible e → OnSome (ConsistentReduction e) e (ω e)

  -- Definition 11.5, of the same
  abbrev pub MaximalEventCancellation : (Epoch → ActionSet) → Type 0
  MaximalEventCancellation ω = (e : Epoch) → InAlphabet e → Reducible e → OnSome (MaximalReduction e) e (ω e)
