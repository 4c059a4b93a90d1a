-- Constants in hexadecimal digits, and that no other token is a constant that was none before.
use Rattle.std.proofs.Common.{ℕ, ◌≤◌, ◌<◌, ◌^◌, true, false, List, [], ◌⊎◌, ◌≡◌, refl, sym, ap, ◌∙◌, arith, ℤ, length, to_z-of_z, w32, to_z, Some, None, option_map}
use Rattle.std.proofs.Math.Facts.{of_z-to_z}
use Rattle.policy.proofs.ConstantLaws.{reading_value_is, reading_limit_is}
use Rattle.policy.specs.Limits.{is_reading_value, operand_in_range, comparison_in_range}
use Rattle.std.specs.List.{list_all}
use Rattle.policy.specs.declared.comparison.Comparison.{Comparison}
use Rattle.policy.specs.declared.comparison.Operand.{Operand}
use Rattle.lexer.proofs.HexLaws.{hex_bound}
use Rattle.lexer.specs.Byte.{bytes, is_hex_digit}
use Rattle.lexer.specs.Number.{number_of, decimal_of, hex_number, pattern_digits, too_large, pattern_of, hexadecimal_of, constant_of}
use Rattle.lexer.specs.Token.{Token, named, reading_of, operand_of, both, comparison_of}
use Rattle.epoch_line.specs.Epoch.{Item, assignment_of, item_in_range}
use Rattle.token.proofs.PatternLaws.{not_pattern, pattern_word, pattern_wide}
use Rattle.acceptance.specs.Patterns.{prefixed, IsPattern, HasWord, Hexadecimal}

-- `0x` and anything is no decimal number
not_decimal : (ds : List ℕ) → decimal_of (prefixed ds) ≡ None
unfolding decimal_of number_of bytes
not_decimal ds = refl

by_digits : (ds : List ℕ) → constant_of (prefixed ds) ≡ pattern_of ds
unfolding constant_of hexadecimal_of bytes
by_digits ds = rw (not_decimal ds)

-- no two values of readings have the same word
pub word_once : (k l : ℤ) (w : ℕ) → HasWord k w → HasWord l w → k ≡ l
word_once k l w p q = sym (to_z-of_z {w = w32} (reading_value_is k p.value)) ∙ ap (to_z w32) (p.word ∙ sym q.word) ∙ to_z-of_z {w = w32} (reading_value_is l q.value)

module _ (ds : List ℕ) (p : IsPattern ds) where
  below : hex_number ds < 2 ^ 32
  below = hex_bound 8 ds p.digits p.few

  number : HasWord (to_z w32 (hex_number ds)) (hex_number ds)
  number = record { value = reading_limit_is (hex_number ds) below; word = of_z-to_z {w = w32} (record { fits = below }) }

  -- a pattern is read as the number whose word it is
  pub pattern_read : (k : ℤ) × (constant_of (prefixed ds) ≡ Some k) × HasWord k (hex_number ds)
  pattern_read = (to_z w32 (hex_number ds), by_digits ds ∙ pattern_word ds p.digits (omega (arith, p.some_digit)) p.few, number)

-- more digits are out of range
pub wide_out_of_range : (ds : List ℕ) → list_all is_hex_digit ds ≡ true → pattern_digits < length ds → (k : ℤ) × (constant_of (prefixed ds) ≡ Some k) × (is_reading_value k ≡ false)
unfolding is_reading_value
wide_out_of_range ds e h = (too_large, by_digits ds ∙ pattern_wide ds e h, refl)

-- so is a comparison with them, whatever its reading and its relation, and a value that they are given as
module _ (ds : List ℕ) (e : list_all is_hex_digit ds ≡ true) (h : pattern_digits < length ds) where
  wide : constant_of (prefixed ds) ≡ Some too_large
  wide = by_digits ds ∙ pattern_wide ds e h

  wide_operand : operand_of (prefixed ds) ≡ Some (Operand.Constant too_large)
  unfolding operand_of reading_of named bytes
  wide_operand = ap (option_map Operand.Constant) wide

  pub wide_comparison : (r q : Token) (c : Comparison) → comparison_of r q (prefixed ds) ≡ Some c → comparison_in_range c ≡ false
  unfolding comparison_of comparison_in_range operand_in_range is_reading_value
  wide_comparison r q c p = grind (arith, wide_operand)

  pub wide_value : (left : List ℕ) (i : Item) → assignment_of (Some (record { left = left; right = prefixed ds })) ≡ Some i → item_in_range i ≡ false
  unfolding assignment_of both item_in_range is_reading_value
  wide_value left i p = grind (arith, wide)

-- no digit, or another byte than a digit
pub bare_prefix : constant_of (prefixed []) ≡ None
unfolding pattern_of
bare_prefix = by_digits []

pub other_byte : (ds : List ℕ) → list_all is_hex_digit ds ≡ false → constant_of (prefixed ds) ≡ None
other_byte ds e = by_digits ds ∙ not_pattern ds e

-- ---- nothing else changed

-- a decimal constant is read as before
pub decimal_kept : (t : List ℕ) (k : ℤ) → decimal_of t ≡ Some k → constant_of t ≡ Some k
unfolding constant_of
decimal_kept t k e = rw e

pattern_digits_is : (ds : List ℕ) (k : ℤ) → pattern_of ds ≡ Some k → (list_all is_hex_digit ds ≡ true) × (1 ≤ length ds)
unfolding pattern_of
pattern_digits_is ds k e = grind (arith, not_pattern)

hexadecimal_form : (t : List ℕ) (k : ℤ) → hexadecimal_of t ≡ Some k → Hexadecimal t
unfolding hexadecimal_of bytes
hexadecimal_form t k e = grind (arith, pattern_digits_is)

-- every constant is a decimal one, or `0x` and hexadecimal digits
pub constant_forms : (t : List ℕ) (k : ℤ) → constant_of t ≡ Some k → (decimal_of t ≡ Some k) ⊎ Hexadecimal t
unfolding constant_of
constant_forms t k e = grind (arith, hexadecimal_form)
