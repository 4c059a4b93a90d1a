-- Going over the lines of a text.
use Rattle.std.specs.Prelude.{ℕ, ◌+◌, List, [], ◌∷◌, ◌≡◌, Option, Some, None, Result, Ok, Err}
use Rattle.policy.specs.declared.fault.Refusal.{Refusal}
use Rattle.lexer.specs.Lines.{lines_of}
use Rattle.syntax.specs.Lines.{TextLine, lines_from}
use Rattle.syntax.specs.declared.text.Lines.{Lines}

-- the lines behind the one at which they stand
abbrev pub lines_ahead : Lines → List (Result TextLine Refusal)
lines_ahead lines = lines_from lines.form (lines.number + 1) lines.rest.now (lines_of lines.rest.now)

-- the text from the first line on, none where there is no line, or the refusal of it
abbrev pub from_first : List (Result TextLine Refusal) → Result (Option (List ℕ)) Refusal
from_first [] = Ok None
from_first (Ok l ∷ later) = Ok (Some l.text)
from_first (Err r ∷ later) = Err r

-- they stand at this line
pub record StandsAt (lines : Lines) (l : TextLine) : Type 0 where
  pub number : lines.number ≡ l.number
  pub value : lines.line ≡ l.line

-- they stand at the first of these, if it is a line
abbrev pub StandsAtFirst : Lines → List (Result TextLine Refusal) → Type 0
StandsAtFirst lines (Ok l ∷ later) = StandsAt lines l
StandsAtFirst lines _ = Unit {0}
