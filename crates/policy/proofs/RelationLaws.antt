-- Equality of readings: as a test of two orders, as a fact, and as the machine compares bits.
use Rattle.std.proofs.Common.{arith, true, ◌≡◌, ℤ, SFits, of_z, to_z-of_z, eqb}
use mir.Syntax.{Width}
use Rattle.policy.specs.Comparison.{eq_z}

pub eq_z_true : (a b : ℤ) → eq_z a b ≡ true → a ≡ b
unfolding eq_z
eq_z_true a b e = grind arith

pub equal_bits : {w : Width} {a b : ℤ} → SFits w a → SFits w b → eqb (of_z w a) (of_z w b) ≡ eq_z a b
unfolding eq_z
equal_bits {w} {a} {b} h k = grind (arith, eq_z_true a b, to_z-of_z h, to_z-of_z k)
