-- Laws of reading a text line by line: the first line stands before the others, and what was answered says what it is.
use Rattle.std.proofs.Common.{ℕ, ◌<◌, ◌≤◌, List, [], ◌∷◌, ◌≡◌, arith, length, Option, Ok, Err}
use Rattle.policy.specs.Line.{PolicyLine}
use Rattle.policy.specs.declared.fault.Fault.{Fault}
use Rattle.lexer.proofs.LeadingLaws.{leading_length}
use Rattle.lexer.specs.Lines.{prepend, pieces, lines_of, in_line, first_line, behind_line, without_end}
use Rattle.syntax.specs.Answer.{line_result, next_line, line_read}
use Rattle.syntax.specs.Judge.{line_answer}

pub lines_here : (text : List ℕ) → 0 < length text → lines_of text ≡ first_line text ∷ lines_of (next_line text)
unfolding lines_of pieces prepend
lines_here [] h = absurd (omega arith)
lines_here (b ∷ []) h = grind arith
lines_here (b ∷ c ∷ s) h = grind (arith, lines_here (c ∷ s))

one_less : (t : List ℕ) → length (without_end t) ≤ length t
one_less t = grind arith

pub next_shorter : (text : List ℕ) → 0 < length text → length (next_line text) < length text
next_shorter [] h = absurd (omega arith)
next_shorter (b ∷ s) h = grind (arith, one_less (behind_line s), leading_length in_line s)

-- ---- what was answered

module _ (form : ℕ) (text : List ℕ) where
  pub read_refused : (f : Fault) → Err f ≡ line_read form text → line_answer form (first_line text) ≡ Err f
  unfolding line_read line_result
  read_refused f = grind arith

  -- a line that is accepted, or skipped
  pub read_ok : (line : Option PolicyLine) (rest : List ℕ) → Ok (line, rest) ≡ line_read form text → (line_answer form (first_line text) ≡ Ok line) × (rest ≡ next_line text)
  unfolding line_read line_result
  read_ok line rest = grind arith
