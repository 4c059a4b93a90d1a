-- Laws of effects together: which are in them where one was taken in.
use Rattle.std.proofs.Common.{◌<◌, ◌^◌, true, false, ◌⊎◌, arith, ◌≡◌}
use Rattle.policy.proofs.SetLaws.{has_empty, has_insert_same, has_insert_old, has_insert_cases, insert_limit}
use Rattle.policy.specs.Number.{set_limit}
use Rattle.policy.specs.Effect.{effect_number, has_effect, no_effects, with_effect}
use Rattle.policy.specs.declared.effect.Effect.{Effect}
use Rattle.policy.specs.declared.effect.Effects.{Effects}

pub effect_none : (x : Effect) → has_effect no_effects x ≡ false
unfolding has_effect
effect_none x = grind (arith, has_empty)

pub effect_new : (s : Effects) (x : Effect) → effect_number x < set_limit → has_effect (with_effect s x) x ≡ true
unfolding has_effect with_effect effect_number
effect_new s x h = grind (arith, has_insert_same)

pub effect_old : (s : Effects) (x y : Effect) → has_effect s y ≡ true → has_effect (with_effect s x) y ≡ true
unfolding has_effect with_effect
effect_old s x y h = grind (arith, has_insert_old)

pub effect_cases : (s : Effects) (x y : Effect) → has_effect (with_effect s x) y ≡ true → (x ≡ y) ⊎ (has_effect s y ≡ true)
unfolding has_effect with_effect
effect_cases s x y h = grind (arith, has_insert_cases)

-- ---- of effects with numbers below 64

pub record Small (s : Effects) : Type 0 where
  pub actions : s.actions.bits < 2 ^ 64
  pub events : s.events.bits < 2 ^ 64

pub small_with : (s : Effects) (x : Effect) → Small s → Small (with_effect s x)
unfolding with_effect
small_with s x h = grind (arith, insert_limit)
