-- What the trials of candidates cost at the most.
use Rattle.std.proofs.Common.{ℕ, zero, suc, ◌*◌, ◌≤◌, Bool, add-mul, mul-le-mul_right, arith}
use Rattle.policy.specs.Number.{set_limit}
use Rattle.policy.specs.Set.{set_size_below, size}
use Rattle.pdl.specs.Greedy.{cost_below, trials_cost}

module _ (s : ℕ) where
  pub size_below : (n : ℕ) → set_size_below s n ≤ n
  unfolding set_size_below
  size_below zero = grind arith
  size_below (suc n) = grind (arith, size_below n)

  -- a set has at most 64 members
  pub size_limit_is : size s ≤ set_limit
  size_limit_is = grind (arith, size_below)

module _ (bad : ℕ → Bool) (cost : ℕ → ℕ) (candidates limit : ℕ) (cheap : (s : ℕ) → cost s ≤ limit) where
  pub cost_below_is : (n : ℕ) → cost_below bad cost candidates n ≤ set_size_below candidates n * limit
  unfolding cost_below set_size_below
  cost_below_is zero = grind arith
  cost_below_is (suc n) = grind (arith, add-mul, cost_below_is n)

  -- where no trial costs more than the limit, all together cost at most the limit for each candidate
  pub trials_cost_is : trials_cost bad cost candidates ≤ size candidates * limit
  unfolding trials_cost
  trials_cost_is = grind (arith, cost_below_is)

  -- and so at most 64 times the limit
  pub trials_limit : trials_cost bad cost candidates ≤ set_limit * limit
  trials_limit = grind (arith, trials_cost_is, mul-le-mul_right, size_limit_is)

  pub cost_below_limit : (n : ℕ) → cost_below bad cost candidates n ≤ n * limit
  cost_below_limit n = grind (arith, cost_below_is, mul-le-mul_right, size_below)
