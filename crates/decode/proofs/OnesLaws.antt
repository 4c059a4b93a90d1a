-- Numbers below 64 stand once each exactly where the set of them has as many members.
use Rattle.std.proofs.Common.{ℕ, suc, ◌+◌, ◌*◌, ◌/◌, ◌%◌, ◌^◌, ◌≤◌, ◌<◌, Bool, true, not, cond, ◌||◌, List, [], ◌∷◌, map, ◌≡◌, refl, sym, ap, ap₂, ◌∙◌, arith, ltb-true, lt-ltb, length, fold, pow_pos, ltb, eqb, bit_or}
use Rattle.std.proofs.lemmas.Bool.{and_from, and_parts}
use Rattle.std.proofs.lemmas.Bool.Decides.{nat_tests}
use Rattle.std.proofs.Math.ListN.{length-map}
use Rattle.std.proofs.lemmas.Nat.{shr_split, or_block, or_comm, ones_cat}
use Rattle.std.specs.Int.RustNames.{count_ones}
use Rattle.policy.proofs.SeenLaws.{seen_repeats}
use Rattle.policy.proofs.SetLaws.{insert_in}
use Rattle.policy.specs.Limits.{repeats}
use Rattle.std.specs.List.{list_all}
use Rattle.policy.specs.Number.{set_limit}
use Rattle.policy.specs.Set.{has, insert}
use Rattle.policy.specs.Steps.Seen.{seen_in}
use Rattle.operation.specs.Fields.{first_of}
use Rattle.decode.specs.Steps.Scan.{numbers_of}

split : (n k : ℕ) → n ≡ n / 2 ^ k * 2 ^ k + n % 2 ^ k
split n k = sym (shr_split n k)

or_none : (n : ℕ) → bit_or n 0 ≡ n
or_none n = or_comm n 0

below_pow : (n k : ℕ) → n % 2 ^ k < 2 ^ k
below_pow n k = let p : 0 < 2 ^ k = pow_pos k in omega arith

digit : (b : ℕ) → b < 2 → (count_ones b ≡ b) × (bit_or b 1 ≡ 1)
unfolding count_ones
digit b l = grind arith

-- the lowest digit is set
ones_or_one : (q : ℕ) → count_ones (bit_or q 1) + q % 2 ≡ count_ones q + 1
ones_or_one q =
    let d : q % 2 < 2 = omega arith in
    let set : bit_or q 1 ≡ q / 2 ^ 1 * 2 ^ 1 + 1 =
    ap (λ (x : ℕ). bit_or x 1) (split q 1) ∙ or_block 1 (q / 2 ^ 1) 0 (q % 2 ^ 1) 1 (below_pow q 1) (omega arith)
    ∙ ap₂ (λ (x y : ℕ). x * 2 ^ 1 + y) (or_none (q / 2 ^ 1)) (digit (q % 2) d).1 in
    let after : count_ones (bit_or q 1) ≡ count_ones (q / 2 ^ 1) + 1 =
    ap count_ones set ∙ ones_cat 1 (q / 2 ^ 1) 1 (omega arith) ∙ ap (λ (x : ℕ). count_ones (q / 2 ^ 1) + x) (digit 1 (omega arith)).0 in
    let before : count_ones q ≡ count_ones (q / 2 ^ 1) + q % 2 =
    ap count_ones (split q 1) ∙ ones_cat 1 (q / 2 ^ 1) (q % 2 ^ 1) (below_pow q 1) ∙ ap (λ (x : ℕ). count_ones (q / 2 ^ 1) + x) (digit (q % 2) d).0 in
    omega (arith, after, before)

ones_insert : (s n : ℕ) → n < 64 → count_ones (insert s n) + s / 2 ^ n % 2 ≡ count_ones s + 1
ones_insert s n h =
    let power : 2 ^ n ≡ 1 * 2 ^ n + 0 = omega arith in
    let set : insert s n ≡ bit_or (s / 2 ^ n) 1 * 2 ^ n + s % 2 ^ n =
    insert_in s n h ∙ ap₂ bit_or (split s n) power ∙ or_block n (s / 2 ^ n) 1 (s % 2 ^ n) 0 (below_pow s n) (pow_pos n)
    ∙ ap (λ (x : ℕ). bit_or (s / 2 ^ n) 1 * 2 ^ n + x) (or_none (s % 2 ^ n)) in
    let after : count_ones (insert s n) ≡ count_ones (bit_or (s / 2 ^ n) 1) + count_ones (s % 2 ^ n) =
    ap count_ones set ∙ ones_cat n (bit_or (s / 2 ^ n) 1) (s % 2 ^ n) (below_pow s n) in
    let before : count_ones s ≡ count_ones (s / 2 ^ n) + count_ones (s % 2 ^ n) =
    ap count_ones (split s n) ∙ ones_cat n (s / 2 ^ n) (s % 2 ^ n) (below_pow s n) in
    omega (arith, after, before, ones_or_one (s / 2 ^ n))

ones_has : (s n : ℕ) → n < 64 → count_ones (insert s n) + cond (has s n) 1 0 ≡ count_ones s + 1
unfolding has
ones_has s n h = let i = ones_insert s n h in grind (arith, nat_tests)

-- a set that takes in numbers has one member more for each, unless one was seen
gathered_more : (had seen : Bool) (before one list_all k : ℕ) → one + cond had 1 0 ≡ before + 1 → (list_all ≤ one + k) × (eqb list_all (one + k) ≡ not seen) → (list_all ≤ before + suc k) × (eqb list_all (before + suc k) ≡ not (had || seen))
gathered_more had seen before one list_all k e h = grind (arith, nat_tests)

gathered : (s : ℕ) (ns : List ℕ) → list_all (λ (n : ℕ). ltb n set_limit) ns ≡ true → (count_ones (fold insert s ns) ≤ count_ones s + length ns) × (eqb (count_ones (fold insert s ns)) (count_ones s + length ns) ≡ not (seen_in s ns))
unfolding seen_in
gathered s [] h = grind (arith, nat_tests)
gathered s (n ∷ ns) h = grind (arith, and_parts, gathered_more, ones_has, ltb-true, gathered (insert s n) ns)

firsts_below : (ws : List ℕ) → list_all (λ (n : ℕ). ltb n set_limit) (map first_of ws) ≡ true
firsts_below [] = refl
firsts_below (w ∷ ws) = and_from _ _ (lt-ltb (first_of w) 64 (omega arith)) (firsts_below ws)

-- the first numbers of words
pub ones_tell : (ws : List ℕ) → eqb (count_ones (numbers_of (map first_of ws))) (length ws) ≡ not (repeats (map first_of ws))
ones_tell ws = grind (arith, digit, length-map, seen_repeats, firsts_below, gathered)
