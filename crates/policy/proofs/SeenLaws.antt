-- Laws of going over the parts of a line: repeats by the numbers seen so far, and how many constants there are.
use Rattle.std.proofs.Common.{ℕ, ◌<◌, true, false, ◌||◌, List, [], ◌∷◌, ◌≡◌, refl, arith, eqb, ltb}
use Rattle.policy.proofs.SetLaws.{has_empty, has_insert_same, has_insert_other}
use Rattle.policy.specs.Limits.{repeats}
use Rattle.policy.specs.Steps.Seen.{seen_in}
use Rattle.std.specs.List.{list_all, list_any}
use Rattle.policy.specs.Number.{set_limit}
use Rattle.policy.specs.Set.{has, insert}

-- ---- numbers seen

has_one_more : (s n m : ℕ) → n < set_limit → has (insert s n) m ≡ eqb n m || has s m
has_one_more s n m h = grind (arith, has_insert_same, has_insert_other)

any_one_more : (s n : ℕ) → n < set_limit → (ns : List ℕ) → list_any (has (insert s n)) ns ≡ list_any (eqb n) ns || list_any (has s) ns
any_one_more s n h [] = refl
any_one_more s n h (m ∷ ms) = grind (arith, has_one_more s n m h, any_one_more s n h ms)

none_in_empty : (ns : List ℕ) → list_any (has 0) ns ≡ false
none_in_empty [] = refl
none_in_empty (n ∷ ns) = grind (arith, has_empty, none_in_empty ns)

seen_all : (s : ℕ) (ns : List ℕ) → list_all (λ (n : ℕ). ltb n set_limit) ns ≡ true → seen_in s ns ≡ list_any (has s) ns || repeats ns
unfolding seen_in repeats
seen_all s [] h = refl
seen_all s (n ∷ ns) h = grind (arith, seen_all (insert s n) ns, any_one_more s n)

-- where every number is in range, one is seen again exactly if some stands twice
pub seen_repeats : (ns : List ℕ) → list_all (λ (n : ℕ). ltb n set_limit) ns ≡ true → seen_in 0 ns ≡ repeats ns
seen_repeats ns h = grind (arith, seen_all, none_in_empty)
