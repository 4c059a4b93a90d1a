-- Laws of reading numbers: clipping early or late is the same, and the digits in front of a token against the token.
use Rattle.std.proofs.Common.{drop, ℕ, ◌+◌, ◌*◌, ◌-◌, ◌<◌, ◌≤◌, Bool, true, false, cond, List, [], ◌∷◌, ◌≡◌, refl, ap, ◌∙◌, arith, length, take, drop, Some, None, option_and_then, get_or, eqb}
use Rattle.std.proofs.lemmas.List.{take_rest}
use Rattle.std.specs.List.{list_all}
use Rattle.lexer.proofs.LeadingLaws.{leading_pass}
use Rattle.lexer.proofs.RunLaws.{whole_token, same_end, broken_token}
use Rattle.lexer.specs.Byte.{is_digit}
use Rattle.lexer.specs.Token.{named}
use Rattle.lexer.specs.Number.{decimal_from, is_empty, number_of}
use Rattle.lexer.specs.Steps.Scan.{in_token, token_in, clip, further_digits, starts_digit, digits_in, number_in, name_in}
use Rattle.lexer.specs.Lines.{take_leading}

-- ---- clipping

pub clip_decimal : (v w : ℕ) (ds : List ℕ) → clip v ≡ clip w → clip (decimal_from v ds) ≡ clip (decimal_from w ds)
unfolding decimal_from
clip_decimal v w [] e = e
clip_decimal v w (d ∷ ds) e = clip_decimal (v * 10 + (d - 48)) (w * 10 + (d - 48)) ds (omega arith)

-- one digit more
pub digits_past : (s : List ℕ) (v w : ℕ) → 1 ≤ length s → is_digit (get_or s 0 0) ≡ true → w ≡ clip (v * 10 + (get_or s 0 0 - 48)) → clip (decimal_from w (take_leading is_digit (take (length s - 1) (drop 1 s)))) ≡ clip (decimal_from v (take_leading is_digit s))
unfolding decimal_from
digits_past [] v w h e q = absurd (omega arith)
digits_past (b ∷ s) v w h e q = rw (e, take_rest (b ∷ s) 1) (clip_decimal w (v * 10 + (b - 48)) (take_leading is_digit s) (ap clip q ∙ omega arith))

-- ---- the number that the digits in front are, by the first

abbrev pub starts_zero : List ℕ → Bool
starts_zero [] = false
starts_zero (b ∷ s) = eqb b 48

digits_first : (b : ℕ) (s : List ℕ) → digits_in (b ∷ s) ≡ cond (eqb b 48) (cond (starts_digit s) None (Some (0, s))) (cond (is_digit b) (Some (further_digits (b - 48) s)) None)
unfolding digits_in number_of decimal_from
digits_first b [] = grind arith
digits_first b (c ∷ s) = grind (arith, leading_pass is_digit (c ∷ s))

pub digits_by_first : (text : List ℕ) →
    digits_in text
    ≡ cond (starts_zero text) (cond (starts_digit (take (length text - 1) (drop 1 text))) None (Some (0, take (length text - 1) (drop 1 text))))
    (cond (starts_digit text) (Some (further_digits (get_or text 0 0 - 48) (take (length text - 1) (drop 1 text)))) None)
unfolding digits_in number_of
digits_by_first [] = refl
digits_by_first (b ∷ s) = rw (take_rest (b ∷ s) 1) (digits_first b s)

-- ---- the digits in front of a token against the token

pub digit_inside : (b : ℕ) → is_digit b ≡ true → in_token b ≡ true
digit_inside b h = grind arith

pub not_number : (l : List ℕ) → list_all is_digit l ≡ false → number_of l ≡ None
unfolding number_of
not_number l h = grind arith

-- the number of the token in front: that of its digits, where it ends behind them
pub number_by_digits : (text : List ℕ) → number_in text ≡ option_and_then (λ (r : ℕ × List ℕ). cond (is_empty (token_in r.1)) (Some r) None) (digits_in text)
unfolding number_in digits_in
number_by_digits text = grind (arith, same_end, digit_inside, whole_token, not_number, broken_token)

-- ---- a letter and a number

pub name_none : (text : List ℕ) (letter : ℕ) → length text < 1 → name_in text letter ≡ None
unfolding name_in named
name_none [] letter h = refl
name_none (b ∷ s) letter h = absurd (omega arith)

name_first : (b : ℕ) (s : List ℕ) (letter : ℕ) → in_token letter ≡ true → name_in (b ∷ s) letter ≡ cond (eqb b letter) (number_in s) None
unfolding name_in number_in named
name_first b s letter h = grind arith

pub name_some : (text : List ℕ) (letter : ℕ) → in_token letter ≡ true → 1 ≤ length text → name_in text letter ≡ cond (eqb (get_or text 0 0) letter) (number_in (take (length text - 1) (drop 1 text))) None
name_some [] letter h l = absurd (omega arith)
name_some (b ∷ s) letter h l = rw (take_rest (b ∷ s) 1) (name_first b s letter h)
