-- Which constants are words.
use Rattle.std.proofs.Common.{ℕ, ◌^◌, ◌<◌, true, ◌≡◌, arith, ℤ, w32, SFits, to_z}
use Rattle.policy.specs.Limits.{is_reading_value}

-- the constants that are words are the values of readings

pub reading_value_is : (k : ℤ) → is_reading_value k ≡ true → SFits w32 k
unfolding is_reading_value
reading_value_is k h = grind arith

pub reading_limit_is : (v : ℕ) → v < 2 ^ 32 → is_reading_value (to_z w32 v) ≡ true
unfolding is_reading_value
reading_limit_is v h = grind arith
