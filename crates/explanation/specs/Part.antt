-- The first line that passes a test, without its line end, trimmed of spaces at both ends, and straight out of the text that it
-- stands in. Texts are those of the newest form.
use Rattle.std.specs.Prelude.{ℕ, ◌+◌, Bool, List, [], ◌∷◌, length, Option, Some, None, option_map, Result, Ok, Err, if◌then◌else◌}
use Rattle.std.specs.Option.{option_or}
use Rattle.policy.specs.Line.{PolicyLine}
use Rattle.policy.specs.declared.fault.Fault.{Fault}
use Rattle.lexer.specs.Byte.{is_space}
use Rattle.lexer.specs.Lines.{lines_of, take_leading, drop_leading}
use Rattle.syntax.specs.Judge.{line_answer}
use Rattle.codegen.specs.Compile.{newest_form}
use Rattle.explanation.specs.declared.part.Excerpt.{Excerpt}
use Rattle.explanation.specs.declared.part.Shown.{Shown}

-- ---- trimmed of spaces

-- at the start
unfoldable pub trim_start : List ℕ → List ℕ
trim_start s = drop_leading is_space s

-- a byte before what is left: a space counts only where something is
unfoldable pub add_to_trimmed : ℕ → List ℕ → List ℕ
add_to_trimmed b [] = if is_space b then [] else b ∷ []
add_to_trimmed b (c ∷ s) = b ∷ c ∷ s

-- at the end
unfoldable pub trim_end : List ℕ → List ℕ
trim_end [] = []
trim_end (b ∷ s) = add_to_trimmed b (trim_end s)

-- at both
unfoldable pub trim : List ℕ → List ℕ
trim s = trim_end (trim_start s)

-- ---- where a line stands

-- a part of a text: from which byte on it stands there, counted from 0, and its bytes
pub record Stretch : Type 0 where
  pub start : ℕ
  pub bytes : List ℕ

-- what is shown of the line that starts at a position of a text
unfoldable pub shown_at : ℕ → List ℕ → Stretch
shown_at at line = record { start = at + length (take_leading is_space line); bytes = trim line }

-- ---- the first line that passes

module _ (test : PolicyLine → Bool) where
  -- a line that starts at a position, and what is shown of those behind it; from a line that is refused on, nothing is
  unfoldable pub or_later : Result (Option PolicyLine) Fault → ℕ → List ℕ → Option Stretch → Option Stretch
  or_later (Ok None) at line later = later
  or_later (Err f) at line later = None
  or_later (Ok (Some l)) at line later = if test l then Some (shown_at at line) else later

  -- of lines, the first of which starts at a position
  unfoldable pub first_from : ℕ → List (List ℕ) → Option Stretch
  first_from at [] = None
  first_from at (line ∷ lines) = or_later (line_answer newest_form line) at line (first_from (at + length line + 1) lines)

-- a part of the maker's text, or one of the site's
pub data Quote : Type 0 where
  of_maker : Stretch → Quote
  of_site : Stretch → Quote

-- in the joint order: the maker's lines before the site's
unfoldable pub first_shown : (PolicyLine → Bool) → List ℕ → List ℕ → Option Quote
first_shown test maker site =
    option_or (option_map of_maker (first_from test 0 (lines_of maker))) (option_map of_site (first_from test 0 (lines_of site)))

-- ---- what the values of the code say

abbrev pub stretch_of : Excerpt → Stretch
stretch_of x = record { start = x.start; bytes = x.bytes.now }

abbrev pub quote_of : Shown → Quote
quote_of (Shown.Maker x) = of_maker (stretch_of x)
quote_of (Shown.Site x) = of_site (stretch_of x)
