-- Laws of a line as a word.
use Rattle.std.proofs.Common.{◌≡◌, ℕ, ◌≤◌, Bool, true, cond, ◌&&◌, eqb, List, [], ◌∷◌, length, take, refl, append-nil, arith, length-take, take_all, eq-eqb, ne_eqb, Some, None}
use Rattle.std.proofs.lemmas.Bool.Decides.{nat_tests}
use Rattle.std.specs.List.{list_all}
use Rattle.lexer.proofs.HexLaws.{hex_bound}
use Rattle.lexer.proofs.LeadingLaws.{leading_joined}
use Rattle.lexer.specs.Byte.{is_hex_digit}
use Rattle.lexer.specs.Lines.{drop_leading}
use Rattle.lexer.specs.Number.{hex_number, is_empty}
use Rattle.lexer.specs.Steps.Scan.{hex_digits_in}
use Rattle.dump.specs.Dump.{word_in}

pub word_some : (line : List ℕ) → length line ≡ 8 → list_all is_hex_digit line ≡ true → word_in line ≡ Some (hex_number line)
unfolding word_in
word_some line l h = rw (eq-eqb (length line) 8 l, h)

pub word_none : (line : List ℕ) → (length line ≡ 8 → ⊥) → word_in line ≡ None
unfolding word_in
word_none line n = rw (ne_eqb (length line) 8 n)

-- of what is the same for all that is so long, as many bytes tell it
pub cut_same : {A : Type 0} (n : ℕ) (f : List ℕ → A) (x : A) → ((l : List ℕ) → n ≤ length l → f l ≡ x) → (l : List ℕ) → f (take n l) ≡ f l
cut_same n f x h l = grind (arith, h l, h (take n l), length-take n l, take_all n l)

-- nine bytes of a line tell whether it is a word
pub word_cut : (line : List ℕ) → word_in (take 9 line) ≡ word_in line
word_cut = cut_same 9 word_in None (λ line h. word_none line (λ q. omega arith))

-- ---- the digits in front are all of it, or not

leading_all : (p : ℕ → Bool) (l : List ℕ) → list_all p l ≡ is_empty (drop_leading p l)
leading_all p [] = refl
leading_all p (b ∷ l) = grind (arith, leading_all p l)

pub word_by_digits : (line : List ℕ) → word_in line ≡ cond (eqb (length line) 8 && eqb (length (hex_digits_in line).1) 0) (Some (hex_digits_in line).0) None
unfolding word_in
word_by_digits line = grind (arith, nat_tests, leading_all is_hex_digit line, leading_joined is_hex_digit line, hex_bound 8 line, append-nil)
