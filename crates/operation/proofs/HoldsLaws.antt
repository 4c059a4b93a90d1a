-- A comparison and its test, from the fields of its word as the functions answer them.
use Rattle.std.proofs.Common.{ℕ, ◌<◌, true, false, List, ◌≡◌, ℤ, Some, get_or, length, arith, pos, slice_get}
use Rattle.std.proofs.lemmas.Option.{slice_get-get_or}
use Rattle.std.proofs.lemmas.Bool.Decides.{nat_tests}
use Rattle.policy.proofs.SetLaws.{has_below, has_below_past}
use Rattle.policy.specs.Set.{has, below}

-- a member of a set that was cut down to the readings that there are
pub known_below : (s n : ℕ) → has (below s 16) n ≡ true → (n < 16) × (has s n ≡ true)
known_below s n h = let p = has_below_past s 16 n in let b = has_below s 16 n in grind (arith, nat_tests)

pub known_not : (s n : ℕ) → has (below s 16) n ≡ false → n < 16 → has s n ≡ false
known_not s n h l = rw has_below at h

pub value_at : (values : List ℤ) (n : ℕ) → n < length values → slice_get values n ≡ Some (get_or values n (pos 0))
value_at values n h = slice_get-get_or values n (pos 0) h
