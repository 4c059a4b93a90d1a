-- Keeping candidates one after another, by rising number, as long as what is kept is not bad.
use Rattle.std.specs.Prelude.{ℕ, zero, suc, ◌+◌, Bool, not, ◌&&◌, if◌then◌else◌}
use Rattle.policy.specs.Number.{set_limit}
use Rattle.policy.specs.Set.{has, insert}

module _ (bad : ℕ → Bool) (candidates : ℕ) where
  -- the trial of n: a candidate is kept unless those kept so far together with it are bad
  unfoldable pub try_next : ℕ → ℕ → ℕ
  try_next kept n = if has candidates n && not (bad (insert kept n)) then insert kept n else kept

  -- what is kept of the candidates under n
  unfoldable pub kept_below : ℕ → ℕ
  kept_below zero = 0
  kept_below (suc n) = try_next (kept_below n) n

  unfoldable pub greedy : ℕ
  greedy = kept_below set_limit

-- ---- what the trials cost, where the trial of a set costs so much

module _ (bad : ℕ → Bool) (cost : ℕ → ℕ) (candidates : ℕ) where
  -- one trial for each candidate under n, kept or not: of those kept before it, together with it
  unfoldable pub cost_below : ℕ → ℕ
  cost_below zero = 0
  cost_below (suc n) = cost_below n + (if has candidates n then cost (insert (kept_below bad candidates n) n) else 0)

  unfoldable pub trials_cost : ℕ
  trials_cost = cost_below set_limit
