-- Laws of the lines that pick a mode.
use Rattle.std.proofs.Common.{◌≡◌, ℕ, zero, suc, ◌<◌, ◌&&◌, eqb, List, ◌∷◌, length, take, refl, ap, arith}
use Rattle.std.specs.Cmp.Lexicographic.{pointwise}
use Rattle.lexer.specs.Byte.{bytes, bytes_equal, is}
use Rattle.session.specs.Printed.{mode_of}

-- the comparison of slices is that of the definition
pub same_pointwise : (s t : List ℕ) → pointwise eqb s t ≡ bytes_equal s t
unfolding bytes_equal
same_pointwise (x ∷ xs) (y ∷ ys) = ap (◌&&◌ (eqb x y)) (same_pointwise xs ys)
same_pointwise _ _ = refl

-- of a line so many bytes, one more than a word has, tell whether it is the word
same_cut : (k : ℕ) (line word : List ℕ) → length word < k → bytes_equal (take k line) word ≡ bytes_equal line word
unfolding bytes_equal
same_cut zero line word h = absurd (omega arith)
same_cut (suc k) (x ∷ line) (y ∷ word) h = ap (◌&&◌ (eqb x y)) (same_cut k line word (omega arith))
same_cut (suc k) _ _ h = refl

-- so eleven bytes tell which mode it picks
pub cut_mode : (k : ℕ) (line : List ℕ) → 10 < k → mode_of (take k line) ≡ mode_of line
unfolding mode_of is bytes
cut_mode k line h = rw (same_cut k line (bytes "run") (omega arith), same_cut k line (bytes "run events") (omega arith))
