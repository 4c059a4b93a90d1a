-- Repeats by the set of the numbers that came before. A set takes no number past 63, so such a number is never seen: this is
-- `repeats` for numbers up to 63.
use Rattle.std.specs.Prelude.{ℕ, Bool, false, ◌||◌, List, [], ◌∷◌}
use Rattle.policy.specs.Set.{has, insert}

unfoldable pub seen_in : ℕ → List ℕ → Bool
seen_in s [] = false
seen_in s (n ∷ ns) = has s n || seen_in (insert s n) ns
