-- The lines of a text that are not skipped, with their numbers and where they stand, up to the first that is refused.
use Rattle.std.specs.Prelude.{ℕ, suc, ◌+◌, List, [], ◌∷◌, length, drop, Option, Some, None, Result, Ok, Err}
use Rattle.policy.specs.Fault.{refusal}
use Rattle.policy.specs.Line.{PolicyLine}
use Rattle.policy.specs.declared.fault.Fault.{Fault}
use Rattle.policy.specs.declared.fault.Refusal.{Refusal}
use Rattle.lexer.specs.Lines.{lines_of}
use Rattle.syntax.specs.Judge.{line_answer}

-- an accepted line: its number, the text from the line on, its bytes without its end, and what it is
pub record TextLine : Type 0 where
  pub number : ℕ
  pub text : List ℕ
  pub bytes : List ℕ
  pub line : PolicyLine

-- a line before those behind it: one that is skipped is left out, and nothing comes behind one that is refused
unfoldable pub before_later : ℕ → List ℕ → List ℕ → Result (Option PolicyLine) Fault → List (Result TextLine Refusal) → List (Result TextLine Refusal)
before_later n text bytes (Ok None) later = later
before_later n text bytes (Ok (Some l)) later = Ok (record { number = n; text = text; bytes = bytes; line = l }) ∷ later
before_later n text bytes (Err f) later = Err (refusal f n) ∷ []

-- lines, the first of which has this number, and the text that they are
unfoldable pub lines_from : (form : ℕ) → ℕ → List ℕ → List (List ℕ) → List (Result TextLine Refusal)
lines_from form n text [] = []
lines_from form n text (bytes ∷ lines) =
    before_later n text bytes (line_answer form bytes) (lines_from form (n + 1) (drop (suc (length bytes)) text) lines)

-- all of a text for a form: lines are counted from 1, skipped ones too
abbrev pub lines_in : ℕ → List ℕ → List (Result TextLine Refusal)
lines_in form text = lines_from form 1 text (lines_of text)
