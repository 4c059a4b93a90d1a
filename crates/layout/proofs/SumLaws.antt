-- Laws of the sum of words: summing one after the other, one word changed, and the word that brings the sum to 0.
use Rattle.std.proofs.Common.{◌≡◌, ℕ, ◌+◌, ◌%◌, ◌<◌, List, [], ◌∷◌, ◌++◌, length, get_or, set, arith}
use Rattle.std.proofs.lemmas.List.Sums.{sum_by-append, sum_by-set}
use Rattle.word.specs.Word.{word_limit}
use Rattle.layout.specs.Layout.{sum, check_word}

-- ---- the last word

pub check_word_is : (words : List ℕ) (total r : ℕ) → total ≡ sum words % word_limit → (r + total) % word_limit ≡ 0 → r < word_limit → r ≡ check_word words
unfolding check_word
check_word_is words total r e q l = omega arith

pub sum_append : (a b : List ℕ) → sum (a ++ b) ≡ sum a + sum b
unfolding sum
sum_append a b = sum_by-append (λ (w : ℕ). w) a b

pub sum_one_more : (ws : List ℕ) (w : ℕ) → sum (ws ++ w ∷ []) ≡ sum ws + w
unfolding sum
sum_one_more ws w = omega (arith, sum_append ws (w ∷ []))

pub check_sum : (words : List ℕ) → sum (words ++ check_word words ∷ []) % word_limit ≡ 0
unfolding sum check_word
check_sum words = let h = sum_append words (check_word words ∷ []) in omega arith

pub check_below : (words : List ℕ) → check_word words < word_limit
unfolding check_word
check_below words = omega arith

-- ---- one word changed

pub sum_set : (words : List ℕ) (i v : ℕ) → i < length words → sum (set words i v) + get_or words i 0 ≡ sum words + v
unfolding sum
sum_set words i v h = sum_by-set (λ (w : ℕ). w) words i v 0 h
