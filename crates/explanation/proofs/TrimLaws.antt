-- Laws of trimming.
use Rattle.std.proofs.Common.{ℕ, suc, ◌+◌, ◌-◌, ◌≤◌, ◌<◌, cond, List, [], ◌∷◌, ◌≡◌, refl, arith, eq-eqb, ne_eqb, length, take, drop, ap, get_or}
use Rattle.std.proofs.lemmas.List.{take_rest}
use Rattle.lexer.specs.Byte.{is_space}
use Rattle.lexer.specs.Lines.{first_line}
use Rattle.explanation.specs.Part.{add_to_trimmed, trim_end}

-- how long a line is without the spaces at its end, told by what is left of it behind so many bytes: as long as it was so far, if that is
-- nothing, and otherwise by all of that
abbrev pub length_with : ℕ → ℕ → List ℕ → ℕ
length_with so_far passed [] = so_far
length_with so_far passed (b ∷ s) = passed + suc (length s)

length_kept : (so_far passed b : ℕ) (s : List ℕ) → length_with so_far passed (add_to_trimmed b s) ≡ length_with (cond (is_space b) so_far (passed + 1)) (passed + 1) s
unfolding add_to_trimmed
length_kept so_far passed b s = grind arith

-- one byte more, a space or another one
pub one_more : (s : List ℕ) (so_far passed : ℕ) → 1 ≤ length s → ¬ (get_or s 0 0 ≡ 10)
    → length_with so_far passed (trim_end (first_line s)) ≡ length_with (cond (is_space (get_or s 0 0)) so_far (passed + 1)) (passed + 1) (trim_end (first_line (take (length s - 1) (drop 1 s))))
unfolding trim_end
one_more [] so_far passed l n = absurd (omega arith)
one_more (b ∷ t) so_far passed l n = rw (take_rest (b ∷ t) 1, ne_eqb b 10 n) (length_kept so_far passed b (trim_end (first_line t)))

pub line_over : (s : List ℕ) (so_far passed : ℕ) → 1 ≤ length s → get_or s 0 0 ≡ 10 → length_with so_far passed (trim_end (first_line s)) ≡ so_far
unfolding trim_end
line_over [] so_far passed h q = absurd (omega arith)
line_over (b ∷ s) so_far passed h q = rw (eq-eqb b 10 q)

pub text_over : (s : List ℕ) (so_far passed : ℕ) → length s < 1 → length_with so_far passed (trim_end (first_line s)) ≡ so_far
unfolding trim_end
text_over [] so_far passed h = refl
text_over (b ∷ s) so_far passed h = absurd (omega arith)

pub length_whole : (s : List ℕ) → length s ≡ length_with 0 0 s
length_whole [] = refl
length_whole (b ∷ s) = omega arith

-- ---- the bytes of a line without the spaces at its end

pub trimmed_front : (s : List ℕ) → take (length (trim_end (first_line s))) s ≡ trim_end (first_line s)
unfolding trim_end add_to_trimmed
trimmed_front [] = refl
trimmed_front (b ∷ s) = grind (arith, trimmed_front s)

pub trimmed_length : (s : List ℕ) → length (take (length (trim_end (first_line s))) s) ≡ length (trim_end (first_line s))
trimmed_length s = ap length (trimmed_front s)
