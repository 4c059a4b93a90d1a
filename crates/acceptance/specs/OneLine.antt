-- What one line of a text is, by what is written there: skipped, accepted, or refused, and for which fault.
use Rattle.std.specs.Prelude.{ℕ, Bool, true, false, List, [], ◌∷◌, ◌≡◌}
use Rattle.policy.specs.Limits.{in_range, crowded, repeated, allowed, valid}
use Rattle.policy.specs.Line.{PolicyLine}
use Rattle.policy.specs.declared.fault.Fault.{Fault}
use Rattle.lexer.specs.Lines.{tokens_of}
use Rattle.lexer.specs.Token.{Token}
use Rattle.syntax.specs.Judge.{is_comment}
use Rattle.acceptance.specs.Written.{IsWritten}

-- no token, or the first begins with `#`
unfoldable pub is_skipped : List Token → Bool
is_skipped [] = true
is_skipped (t ∷ ts) = is_comment t

abbrev pub LineSkipped : List ℕ → Type 0
LineSkipped line = is_skipped (tokens_of line) ≡ true

-- written as that line, which texts for the form may have, its numbers in range, not too many parts, and none twice
pub record LineAccepted (form : ℕ) (line : List ℕ) (l : PolicyLine) : Type 0 where
  pub written : IsWritten line l
  pub allowed : allowed form l ≡ true
  pub valid : valid l ≡ true

-- the faults in their order: each stands behind those before it
pub data LineRefused (form : ℕ) (line : List ℕ) : Fault → Type 0 where
  wrong_shape : is_skipped (tokens_of line) ≡ false → ((l : PolicyLine) → ¬ IsWritten line l) → LineRefused form line Fault.Syntax
  -- a rule that triggers an event, in a text for a form that has none
  not_in_form : (l : PolicyLine) → IsWritten line l → allowed form l ≡ false → LineRefused form line Fault.Syntax
  -- an event or an action past 63, a reading past 15, a constant that is no value of 32 bits or has more than eight hexadecimal digits
  out_of_range : (l : PolicyLine) → IsWritten line l → allowed form l ≡ true → in_range l ≡ false → LineRefused form line Fault.OutOfRange
  -- more than eight literals or actions, or more than four comparisons
  too_many : (l : PolicyLine) → IsWritten line l → allowed form l ≡ true → in_range l ≡ true → crowded l ≡ true → LineRefused form line Fault.TooManyParts
  -- an event twice, or an action of a constraint
  twice : (l : PolicyLine) → IsWritten line l → allowed form l ≡ true → in_range l ≡ true → crowded l ≡ false → repeated l ≡ true
      → LineRefused form line Fault.Duplicate
