-- What a line of a rule text is: skipped, accepted, or refused for one of the faults 2, 3, 4 and 6.
use Rattle.std.specs.Prelude.{ℕ, Bool, false, not, if◌then◌else◌, List, [], ◌∷◌, ◌==◌, Option, Some, None, Result, Ok, Err}
use Rattle.std.specs.Str.{byte}
use Rattle.policy.specs.Limits.{in_range, crowded, repeated, allowed}
use Rattle.policy.specs.Line.{PolicyLine}
use Rattle.policy.specs.declared.fault.Fault.{Fault}
use Rattle.syntax.specs.Grammar.{line_from}
use Rattle.lexer.specs.Lines.{tokens_of}

-- the line, if the texts for a form may have it
unfoldable pub line_for : ℕ → Option PolicyLine → Option PolicyLine
line_for form None = None
line_for form (Some l) = if allowed form l then Some l else None

-- the faults of a line in their order: 2, 3, 4, 6
unfoldable pub judge_line : Option PolicyLine → Result (Option PolicyLine) Fault
judge_line None = Err Fault.Syntax
judge_line (Some l) =
    if not (in_range l) then Err Fault.OutOfRange
    else (if crowded l then Err Fault.TooManyParts else (if repeated l then Err Fault.Duplicate else Ok (Some l)))

unfoldable pub is_comment : List ℕ → Bool
is_comment [] = false
is_comment (b ∷ bs) = b == byte "#"

-- lines with no token, and lines whose first token begins with `#`, are skipped
unfoldable pub tokens_answer : ℕ → List (List ℕ) → Result (Option PolicyLine) Fault
tokens_answer form [] = Ok None
tokens_answer form (t ∷ ts) = if is_comment t then Ok None else judge_line (line_for form (line_from (t ∷ ts)))

-- the line that is accepted in a text for a form, none where it is skipped, or its fault
unfoldable pub line_answer : ℕ → List ℕ → Result (Option PolicyLine) Fault
line_answer form line = tokens_answer form (tokens_of line)
