-- What the code answers for check words.
use Rattle.std.proofs.Common.{◌≡◌, ℕ, suc, ◌+◌, List, [], ◌∷◌, add-one, length, get_or, take, drop, ◌∙◌, arith, take-append-drop, drop-cons, drop_of_length-le}
use Rattle.layout.specs.Layout.{sum}
use Rattle.layout.proofs.SumLaws.{sum_append}

-- words of which two stand behind an index
pub sum_behind : (n : ℕ) (ws : List ℕ) → length ws ≡ n + 2 → sum ws ≡ sum (take n ws) + get_or ws n 0 + get_or ws (n + 1) 0
unfolding sum
sum_behind n ws size =
    let last : drop (n + 1) ws ≡ get_or ws (n + 1) 0 ∷ [] = drop-cons ws (n + 1) 0 (omega arith) ∙ rw (drop_of_length-le ws {i = suc (n + 1)} (omega arith)) in
    let two : drop n ws ≡ get_or ws n 0 ∷ get_or ws (n + 1) 0 ∷ [] = drop-cons ws n 0 (omega arith) ∙ rw (← add-one n, last) in
    let a : sum ws ≡ sum (take n ws) + sum (get_or ws n 0 ∷ get_or ws (n + 1) 0 ∷ []) = rw (take-append-drop n ws, two) at (sum_append (take n ws) (drop n ws)) in
    omega (arith, a)
