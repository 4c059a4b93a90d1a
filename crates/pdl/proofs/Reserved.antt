-- Which events are reserved: those that some rule triggers, and none in texts for forms that have no such rule.
use Rattle.std.proofs.Common.{arith, ℕ, true, false, List, [], ◌∷◌, map, fold, ◌≡◌, refl, leb}
use Rattle.policy.specs.Effect.{no_effects, with_effect}
use Rattle.policy.specs.Limits.{trigger_form, ending_allowed, allowed}
use Rattle.policy.specs.Line.{rule, ending_of}
use Rattle.std.specs.List.{list_all}
use Rattle.policy.specs.Policy.{Rule}
use Rattle.policy.specs.Set.{no_events}
use Rattle.policy.specs.declared.effect.Effect.{Effect}
use Rattle.policy.specs.declared.effect.Effects.{Effects}
use Rattle.policy.specs.declared.line.Ending.{Ending}
use Rattle.pdl.specs.Yield.{take_effect, effects_where, reserved}

module _ (form : ℕ) (lower : leb trigger_form form ≡ false) where
  causes_one : (s : Effects) (x : Effect) → ending_allowed form (Ending.Yields x) ≡ true → (with_effect s x).events ≡ s.events
  unfolding ending_allowed with_effect
  causes_one s x h = grind arith

  cause_all : (rules : List Rule) (s : Effects) → list_all (allowed form) (map rule rules) ≡ true → (fold (take_effect (λ r. true)) s rules).events ≡ s.events
  unfolding take_effect ending_of
  cause_all [] s h = refl
  cause_all (r ∷ rest) s h = grind (arith, cause_all rest (with_effect s r.effect), causes_one s r.effect)

  pub none_reserved : (rules : List Rule) → list_all (allowed form) (map rule rules) ≡ true → reserved rules ≡ no_events
  unfolding effects_where
  none_reserved rules h = cause_all rules no_effects h
