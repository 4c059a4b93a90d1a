-- Laws of reading patterns, which are hexadecimal digits behind `0x`, and of a constant as one of both forms.
use Rattle.std.proofs.Common.{ℕ, ◌-◌, ◌%◌, ◌^◌, ◌<◌, ◌≤◌, Bool, true, false, ◌&&◌, cond, List, [], ◌∷◌, ◌≡◌, refl, arith, ℤ, pos, length, take, drop, w32, to_z, Some, None, Option, option_map, eqb, leb}
use Rattle.std.proofs.lemmas.List.{take_rest}
use Rattle.policy.proofs.ConstantLaws.{reading_limit_is}
use Rattle.policy.specs.Limits.{is_reading_value}
use Rattle.std.specs.List.{list_all}
use Rattle.lexer.proofs.HexLaws.{hex_inside, hex_bound}
use Rattle.lexer.proofs.LeadingLaws.{leading_length, leading_pass}
use Rattle.lexer.proofs.RunLaws.{whole_token, same_end, broken_token}
use Rattle.lexer.specs.Byte.{is_hex_digit}
use Rattle.lexer.specs.Number.{is_empty, hex_number, pattern_of, hexadecimal_of, constant_of}
use Rattle.lexer.specs.Steps.Scan.{token_in}
use Rattle.lexer.specs.Lines.{take_leading, drop_leading}
use Rattle.token.specs.Steps.PartIn.{kept_before, decimal_in, pattern_in, hexadecimal_in, constant_in}

-- ---- the pattern in front, by its digits

pub not_pattern : (t : List ℕ) → list_all is_hex_digit t ≡ false → pattern_of t ≡ None
unfolding pattern_of
not_pattern t e = grind arith

pub pattern_word : (t : List ℕ) → list_all is_hex_digit t ≡ true → 0 < length t → length t ≤ 8 → pattern_of t ≡ Some (to_z w32 (hex_number t))
unfolding pattern_of
pattern_word [] e l h = absurd (omega arith)
pattern_word (d ∷ ds) e l h = grind arith

pub pattern_wide : (t : List ℕ) → list_all is_hex_digit t ≡ true → 8 < length t → pattern_of t ≡ Some (pos 2147483648)
unfolding pattern_of
pattern_wide [] e h = absurd (omega arith)
pattern_wide (d ∷ ds) e h = grind arith

-- so many digits of such a value, and what stands behind them, where the token ends there
abbrev pub pattern_from : Bool → ℕ → ℕ → List ℕ → Option (Option ℤ × List ℕ)
pattern_from ended count value rest = cond (eqb count 0) None (cond ended (cond (leb count 8) (Some (Some (to_z w32 value), rest)) (Some (None, rest))) None)

-- digits as a pattern
pattern_digits : (t rest : List ℕ) → list_all is_hex_digit t ≡ true → option_map (kept_before is_reading_value rest) (pattern_of t) ≡ pattern_from true (length t) (hex_number t % 2 ^ 32) rest
unfolding pattern_of is_reading_value
pattern_digits [] rest e = refl
pattern_digits (d ∷ ds) rest e = grind (arith, hex_bound 8 (d ∷ ds) e, reading_limit_is (hex_number (d ∷ ds)))

module _ (text : List ℕ) where
  abbrev run : List ℕ
  run = take_leading is_hex_digit text

  abbrev rest : List ℕ
  rest = drop_leading is_hex_digit text

  pub pattern_by_digits : pattern_in text ≡ pattern_from (is_empty (token_in rest)) (length text - length rest) (hex_number run % 2 ^ 32) rest
  unfolding pattern_in
  pattern_by_digits =
      grind (arith, leading_length is_hex_digit, leading_pass is_hex_digit, same_end is_hex_digit hex_inside, whole_token is_hex_digit hex_inside, pattern_digits run rest, broken_token is_hex_digit hex_inside, not_pattern)

-- ---- `0x` and a pattern

abbrev pub starts_pattern : List ℕ → Bool
starts_pattern [] = false
starts_pattern (a ∷ []) = false
starts_pattern (a ∷ b ∷ s) = eqb a 48 && eqb b 120

hexadecimal_first : (a b : ℕ) (s : List ℕ) → hexadecimal_in (a ∷ b ∷ s) ≡ cond (eqb a 48 && eqb b 120) (pattern_in s) None
unfolding hexadecimal_in pattern_in hexadecimal_of
hexadecimal_first a b s = grind arith

pub hexadecimal_by_prefix : (text : List ℕ) → hexadecimal_in text ≡ cond (starts_pattern text) (pattern_in (take (length text - 2) (drop 2 text))) None
unfolding hexadecimal_in hexadecimal_of
hexadecimal_by_prefix [] = refl
hexadecimal_by_prefix (a ∷ []) = grind arith
hexadecimal_by_prefix (a ∷ b ∷ s) = rw (take_rest (a ∷ b ∷ s) 2) (hexadecimal_first a b s)

-- ---- one of both forms

module _ {A : Type 0} where
  abbrev pub first_of : Option A → Option A → Option A
  first_of None y = y
  first_of (Some x) y = Some x

pub constant_by_form : (text : List ℕ) → constant_in text ≡ first_of (decimal_in text) (hexadecimal_in text)
unfolding decimal_in hexadecimal_in constant_in constant_of
constant_by_form text = grind arith
