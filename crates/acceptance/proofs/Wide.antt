-- A comparison that is out of range makes its line out of range, whatever else the line has, and an item of an epoch line the epoch line: so
-- do constants of more than eight hexadecimal digits.
use Rattle.policy.specs.Fault.{refusal}
use Rattle.std.proofs.Common.{ℕ, arith, ◌≤◌, ◌<◌, Bool, true, false, List, ◌∷◌, ◌++◌, ◌≡◌, length, Err, Some, eqb}
use Rattle.std.proofs.lemmas.List.Folds.{list_all-append}
use Rattle.std.proofs.lemmas.Bool.Decides.{nat_tests}
use Rattle.policy.specs.Limits.{allowed, in_range, comparison_in_range}
use Rattle.policy.specs.Line.{PolicyLine, comparisons_of}
use Rattle.std.specs.List.{list_all, list_any}
use Rattle.policy.specs.declared.comparison.Comparison.{Comparison}
use Rattle.policy.specs.declared.fault.Fault.{Fault}
use Rattle.lexer.specs.Byte.{is_hex_digit}
use Rattle.lexer.specs.Number.{pattern_digits}
use Rattle.lexer.specs.Token.{Token, comparison_of}
use Rattle.lexer.specs.Lines.{tokens_of}
use Rattle.syntax.specs.Judge.{judge_line, line_answer}
use Rattle.epoch_line.specs.Epoch.{Item, items_of, item_in_range, epoch_limit, judge_epoch, read_epoch}
use Rattle.acceptance.proofs.Patterns.{wide_comparison}
use Rattle.acceptance.proofs.OneLine.{written_answer}
use Rattle.acceptance.specs.Patterns.{prefixed}
use Rattle.acceptance.specs.Written.{IsWritten}

module _ {A : Type 0} (p : A → Bool) (x : A) (fails : p x ≡ false) where
  some_fails : (before after : List A) → list_all p (before ++ x ∷ after) ≡ false
  some_fails before after = grind (arith, list_all-append, fails)

-- ---- lines of a text

module _ (form : ℕ) (line : List ℕ) (l : PolicyLine) (w : IsWritten line l) (a : allowed form l ≡ true) where
  pub comparison_refused : (before after : List Comparison) (c : Comparison) → comparisons_of l ≡ before ++ c ∷ after → comparison_in_range c ≡ false
      → line_answer form line ≡ Err Fault.OutOfRange
  unfolding judge_line in_range
  comparison_refused before after c e f = grind (arith, written_answer form line l w a, some_fails comparison_in_range c f before after)

  -- whatever its reading, its relation and the rest of the line
  pub wide_constant_refused : (ds : List ℕ) → list_all is_hex_digit ds ≡ true → pattern_digits < length ds → (r q : Token) (c : Comparison) → comparison_of r q (prefixed ds) ≡ Some c
      → (before after : List Comparison) → comparisons_of l ≡ before ++ c ∷ after → line_answer form line ≡ Err Fault.OutOfRange
  wide_constant_refused ds h k r q c e before after s = comparison_refused before after c s (wide_comparison ds h k r q c e)

-- ---- epoch lines

module _ (line : List ℕ) (short : length line ≤ epoch_limit) (no_end : list_any (eqb 10) line ≡ false) where
  pub item_refused : (before after : List Item) (i : Item) → items_of (tokens_of line) ≡ Some (before ++ i ∷ after) → item_in_range i ≡ false
      → read_epoch line ≡ Err (refusal Fault.EpochRange 0)
  unfolding read_epoch judge_epoch
  item_refused before after i e f = grind (arith, nat_tests, some_fails item_in_range i f before after)
