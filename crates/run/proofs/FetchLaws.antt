-- Laws of the number of words that are fetched. A run fetches at most as many as there are, and one more where the last of them has a
-- constant.
use Rattle.std.proofs.Common.{ℕ, zero, suc, ◌+◌, ◌-◌, ◌≤◌, Bool, cond, List, [], ◌∷◌, ◌≡◌, arith, length}
use Rattle.policy.specs.Set.{ActionSet}
use Rattle.policy.specs.declared.epoch.Readings.{Readings}
use Rattle.policy.specs.declared.set.Events.{Events}
use Rattle.operation.specs.Said.{says, constants_of}
use Rattle.operation.specs.declared.said.LinePart.{LinePart}
use Rattle.run.specs.Run.{passes, ran, rule_test, constraint_test, ends_constraint, fetches, up_to, rule_fetches, trial_fetches}
use Rattle.run.proofs.TestLaws.{constants_small}

-- up to the end of a constraint
pub fetches_up_to : (p : LinePart) (rest : List LinePart)
    → fetches (up_to ends_constraint (p ∷ rest)) ≡ 1 + constants_of p + cond (ends_constraint p) 0 (fetches (up_to ends_constraint rest))
unfolding up_to fetches
fetches_up_to p rest = grind arith

-- ---- as many as there are

-- the constants of the last word
abbrev pub last_constants : List ℕ → ℕ
last_constants [] = 0
last_constants (w ∷ []) = constants_of (says w 0)
last_constants (w ∷ v ∷ ws) = last_constants (v ∷ ws)

pub last_behind : (w : ℕ) (ws : List ℕ) → 1 ≤ length ws → last_constants (w ∷ ws) ≡ last_constants ws
last_behind w ws h = grind arith

last_small : (ws : List ℕ) → last_constants ws ≤ 1
last_small [] = omega arith
last_small (w ∷ []) = constants_small (says w 0)
last_small (w ∷ v ∷ ws) = last_small (v ∷ ws)

module _ (test : LinePart → Bool) where
  ran_fetches : (n : ℕ) (ws : List ℕ) → fetches (ran test n ws) ≤ length ws - n + last_constants ws
  unfolding ran fetches
  ran_fetches n [] = omega arith
  ran_fetches (suc n) (w ∷ []) = omega (arith, ran_fetches n [])
  ran_fetches (suc n) (w ∷ v ∷ ws) = omega (arith, ran_fetches n (v ∷ ws))
  ran_fetches zero (w ∷ []) = omega (arith, ran_fetches (passes (test (says w 0)) (says w 0) w) [])
  ran_fetches zero (w ∷ v ∷ ws) =
      omega (arith, constants_small (says w v), ran_fetches (passes (test (says w v)) (says w v) w) (v ∷ ws))

up_to_fetches : (test : LinePart → Bool) (ps : List LinePart) → fetches (up_to test ps) ≤ fetches ps
unfolding up_to fetches
up_to_fetches test [] = omega arith
up_to_fetches test (p ∷ ps) = grind (arith, up_to_fetches test ps)

-- ---- of a part

module _ (rs : Readings) (ws : List ℕ) where
  pub rule_fetches_is : (ev : Events) → rule_fetches ev rs ws ≤ length ws + last_constants ws
  unfolding rule_fetches
  rule_fetches_is ev = omega (arith, ran_fetches (rule_test ev rs) 0 ws)

  pub trial_fetches_is : (s : ActionSet) → trial_fetches rs s ws ≤ length ws + last_constants ws
  unfolding trial_fetches
  trial_fetches_is s = omega (arith, ran_fetches (constraint_test rs s) 0 ws, up_to_fetches ends_constraint (ran (constraint_test rs s) 0 ws))

  pub rule_fetches_few : (ev : Events) → rule_fetches ev rs ws ≤ length ws + 1
  rule_fetches_few ev = omega (arith, rule_fetches_is ev, last_small ws)

  pub trial_fetches_few : (s : ActionSet) → trial_fetches rs s ws ≤ length ws + 1
  trial_fetches_few s = omega (arith, trial_fetches_is s, last_small ws)
