-- The proposed set, and in the same words what is triggered, is what Definition 6 of Chomicki, Lobo and Naqvi, "Conflict Resolution Using Logic Programming" (TKDE 2003), says.
use Rattle.std.proofs.Common.{◌<◌, ◌^◌, Bool, true, false, List, [], ◌∷◌, Contains, ◌↔◌, ◌⊎◌, inl, ◌≡◌, refl, subst, lit<, fold, arith}
use Rattle.std.proofs.lemmas.Bool.{and_from, and_parts}
use Rattle.policy.proofs.ListLaws.{contains_first, contains_later, all_in, all_out, contains_cases}
use Rattle.policy.proofs.EffectLaws.{effect_none, effect_new, effect_old, effect_cases, Small, small_with}
use Rattle.policy.proofs.SetLaws.{has_limit}
use Rattle.policy.proofs.MissingLaws.{missing_in_rule, fewer_in_rule}
use Rattle.policy.specs.Comparison.{NamesMissing, comparison_holds}
use Rattle.policy.specs.Effect.{effect_number, has_effect, no_effects}
use Rattle.policy.specs.Epoch.{SomeOf}
use Rattle.policy.specs.declared.effect.Effect.{Effect}
use Rattle.policy.specs.declared.effect.Effects.{Effects}
use Rattle.policy.specs.declared.epoch.Readings.{Readings}
use Rattle.policy.specs.Number.{set_limit}
use Rattle.pdl.specs.Pdl.{Occurs, Condition, Derives, Interpretation, has_its, Model, Entails, DefinedBy, TriggeredBy, DefinedOnKept, TriggeredByKept, ◌⊆◌, ◌⊑◌}
use Rattle.policy.specs.Policy.{Rule}
use Rattle.policy.specs.Set.{EventSet, has_event, all_events, keeping, has_action}
use Rattle.pdl.specs.Reduction.{proposed_with, triggered_with}
use Rattle.pdl.specs.Yield.{literal_holds, rule_holds, take_effect, effects_where, effects, proposals, triggers, proposed, triggered, reserved}
use Rattle.policy.specs.declared.comparison.Comparison.{Comparison}
use Rattle.policy.specs.declared.comparison.Literal.{Literal}
use Rattle.policy.specs.declared.line.Part.{Part}
use Rattle.policy.specs.declared.number.Action.{Action}
use Rattle.policy.specs.declared.number.Event.{Event}
use Rattle.policy.specs.declared.set.Events.{Events}

-- a literal holds exactly if it occurs
pub literal_occurs : (ev : Events) (l : Literal) → (literal_holds ev l ≡ true) ↔ Occurs ev l
unfolding literal_holds
literal_occurs ev l = grind arith

pub rule_holds_is : (ev : Events) (rs : Readings) (r : Rule) → ((l : Literal) → Contains r.literals l → Occurs ev l) → Condition Part.Rules rs r.comparisons → rule_holds ev rs r ≡ true
unfolding rule_holds
rule_holds_is ev rs r occurs condition = grind (arith, and_from, all_in, literal_occurs)

-- a rule that holds derives its effect
pub rule_derives : (rules : List Rule) (ev : Events) (rs : Readings) (r : Rule) → Contains rules r → rule_holds ev rs r ≡ true → Derives rules ev rs r.effect
unfolding rule_holds
rule_derives rules ev rs r m h =
    let parts = and_parts _ _ h in
    let event = λ (l : Literal) (k : Contains r.literals l). (literal_occurs ev l).0 (all_out (literal_holds ev) r.literals parts.0 l k) in
    record { rule = r; listed = m; effect = refl; event = event; condition = all_out (comparison_holds Part.Rules rs) r.comparisons parts.1 }

-- a rule with a comparison that names a missing reading does not hold
pub missing_rule : (ev : Events) (rs : Readings) (r : Rule) (c : Comparison) → Contains r.comparisons c → NamesMissing rs c → rule_holds ev rs r ≡ false
unfolding rule_holds
missing_rule ev rs r c m missing = grind (arith, all_out (comparison_holds Part.Rules rs) r.comparisons, missing_in_rule rs c missing)

-- ---- the effects of the rules that pass a test

module _ (test : Rule → Bool) where
  -- a rule of a list that has the effect and passes the test
  abbrev pub Has : List Rule → Effect → Type 0
  Has rules x = (r : Rule) × Contains rules r × (r.effect ≡ x) × (test r ≡ true)

  module _ (x : Effect) where
    more_old : (rules : List Rule) (s : Effects) → has_effect s x ≡ true → has_effect (fold (take_effect test) s rules) x ≡ true
    unfolding take_effect
    more_old [] s h = h
    more_old (r ∷ rest) s h = grind (arith, effect_old s r.effect x, more_old rest (take_effect test s r))

    more_new : (rules : List Rule) (s : Effects) (r : Rule) → Contains rules r → effect_number x < set_limit → r.effect ≡ x → test r ≡ true → has_effect (fold (take_effect test) s rules) x ≡ true
    unfolding take_effect
    more_new [] s r m l q h = absurd (omega (arith, m.1))
    more_new (y ∷ ys) s r m l q h = grind (arith, contains_cases y ys r m, more_old ys (take_effect test s y), effect_new s x l, more_new ys (take_effect test s y) r)

    more_cases : (rules : List Rule) (s : Effects) → has_effect (fold (take_effect test) s rules) x ≡ true → (has_effect s x ≡ true) ⊎ Has rules x
    unfolding take_effect
    more_cases [] s h = inl h
    more_cases (y ∷ ys) s h = grind (arith, contains_first, effect_cases s y.effect x, contains_later, more_cases ys (take_effect test s y) h)

  -- an effect is there exactly if some rule that passes the test has it
  pub effects_exactly : (rules : List Rule) (x : Effect) → effect_number x < set_limit → (has_effect (effects_where test rules) x ≡ true) ↔ Has rules x
  unfolding effects_where
  effects_exactly rules x l = grind (arith, effect_none, more_cases, more_new)

  take_small : (s : Effects) (r : Rule) → Small s → Small (take_effect test s r)
  unfolding take_effect
  take_small s r h = grind (arith, small_with)

  more_small : (rules : List Rule) (s : Effects) → Small s → Small (fold (take_effect test) s rules)
  more_small [] s h = h
  more_small (r ∷ rest) s h = more_small rest (take_effect test s r) (take_small s r h)

  -- and its number is one of 64
  pub effects_small : (rules : List Rule) → Small (effects_where test rules)
  unfolding effects_where
  effects_small rules = more_small rules no_effects (record { actions = lit< tt; events = lit< tt })

-- ---- the effects of the rules that hold

-- an effect is there exactly if some rule has it, and all the rule's literals and comparisons hold
pub effects_derived : (rules : List Rule) (ev : Events) (rs : Readings) (x : Effect) → effect_number x < set_limit → (has_effect (effects rules ev rs) x ≡ true) ↔ Derives rules ev rs x
effects_derived rules ev rs x l = grind (arith, effects_exactly, rule_derives, rule_holds_is)

-- what some rule derives holds in every model, and what holds in the model of these effects is among them
pub effects_entailed : (rules : List Rule) (ev : Events) (rs : Readings) (x : Effect) → effect_number x < set_limit → (has_effect (effects rules ev rs) x ≡ true) ↔ Entails rules ev rs x
unfolding has_effect effect_number
effects_entailed rules ev rs x l = (λ h I m. entailed I m ((effects_derived rules ev rs x l).0 h), λ h. found x l (h least is_model))
  where
    entailed : (I : Interpretation) → Model rules ev rs I → Derives rules ev rs x → has_its I x
    entailed I m d = subst (has_its I) d.effect (m.implications d.rule d.listed (λ k i. m.facts k (d.event k i)) d.condition)

    There : Effect → Type 0
    There y = effect_number y < set_limit → has_effect (effects rules ev rs) y ≡ true

    least : Interpretation
    least = record { occ = Occurs ev; exec = λ a. There (Effect.Causes a); triggered = λ e. There (Effect.Triggers e) }

    found : (y : Effect) → effect_number y < set_limit → has_its least y → has_effect (effects rules ev rs) y ≡ true
    found (Effect.Causes a) k h = h k
    found (Effect.Triggers e) k h = h k

    there : (y : Effect) → There y → has_its least y
    there (Effect.Causes a) h = h
    there (Effect.Triggers e) h = h

    is_model : Model rules ev rs least
    is_model = grind (arith, there, effects_derived)

-- ---- what is proposed, and what is triggered

pub proposals_derived : (rules : List Rule) (ev : Events) (rs : Readings) (a : Action) → a.0 < set_limit → (has_action (proposals rules ev rs) a ≡ true) ↔ Derives rules ev rs (Effect.Causes a)
unfolding has_effect effect_number
proposals_derived rules ev rs a = effects_derived rules ev rs (Effect.Causes a)

pub triggers_derived : (rules : List Rule) (ev : Events) (rs : Readings) (x : Event) → x.0 < set_limit → (has_event (triggers rules ev rs) x ≡ true) ↔ Derives rules ev rs (Effect.Triggers x)
unfolding has_effect effect_number
triggers_derived rules ev rs x = effects_derived rules ev rs (Effect.Triggers x)

pub proposals_entailed : (rules : List Rule) (ev : Events) (rs : Readings) (a : Action) → a.0 < set_limit → (has_action (proposals rules ev rs) a ≡ true) ↔ Entails rules ev rs (Effect.Causes a)
unfolding has_effect effect_number
proposals_entailed rules ev rs a = effects_entailed rules ev rs (Effect.Causes a)

-- Definition 6
pub proposed_defined : (rules : List Rule) → DefinedBy rules (proposed rules)
unfolding has_effect effect_number
proposed_defined rules e a = proposals_entailed rules (all_events e.events) e.readings a

pub triggered_defined : (rules : List Rule) → TriggeredBy rules (triggered rules)
unfolding has_effect effect_number
triggered_defined rules e x = effects_entailed rules (all_events e.events) e.readings (Effect.Triggers x)

-- a proposed set is one of 64 actions
pub proposals_limit : (rules : List Rule) (ev : Events) (rs : Readings) → (proposals rules ev rs).bits < 2 ^ 64
proposals_limit rules ev rs = (effects_small (rule_holds ev rs) rules).actions

-- an event is reserved exactly if some rule triggers it
pub reserved_exactly : (rules : List Rule) (x : Event) → x.0 < set_limit → (has_event (reserved rules) x ≡ true) ↔ ((r : Rule) × Contains rules r × (r.effect ≡ Effect.Triggers x))
unfolding has_effect effect_number
reserved_exactly rules x l = grind (arith, effects_exactly (λ (r : Rule). true) rules (Effect.Triggers x) l)

-- with fewer readings no more is proposed
pub fewer_proposed : (rules : List Rule) (ev : Events) (fewer all : Readings) → SomeOf fewer all → proposals rules ev fewer ⊆ proposals rules ev all
fewer_proposed rules ev fewer all some_of a h =
    let l = has_limit (proposals rules ev fewer).bits (proposals_limit rules ev fewer) a.0 h in
    let d = (proposals_derived rules ev fewer a l).0 h in
    let condition = λ (c : Comparison) (m : Contains d.rule.comparisons c). fewer_in_rule fewer all some_of c (d.condition c m) in
    (proposals_derived rules ev all a l).1 (record { rule = d.rule; listed = d.listed; effect = d.effect; event = d.event; condition = condition })

-- with more events present, and the same that occurred, no less is proposed
pub more_proposed : (rules : List Rule) (fewer more occurred : EventSet) (rs : Readings) → fewer ⊑ more
    → proposals rules (keeping occurred fewer) rs ⊆ proposals rules (keeping occurred more) rs
more_proposed rules fewer more occurred rs some_of a h = grind (arith, has_limit, proposals_limit, proposals_derived)

-- Definition 6, where only some events of an epoch are kept
pub kept_defined : (rules : List Rule) → DefinedOnKept rules (proposed_with rules)
unfolding has_effect effect_number
kept_defined rules e kept a = effects_entailed rules (keeping e.events kept) e.readings (Effect.Causes a)

pub kept_triggered : (rules : List Rule) → TriggeredByKept rules (triggered_with rules)
unfolding has_effect effect_number
kept_triggered rules e kept x = effects_entailed rules (keeping e.events kept) e.readings (Effect.Triggers x)
