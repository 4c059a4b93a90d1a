-- The line that words of an image begin with, as a function. `line_at` finds a line exactly where it `Stands`, and no two lines stand at
-- one place: both are laws (`line_found_exactly` and `one_line_stands` in guarantees), so that how it finds the line need not be read.
use Rattle.std.specs.Prelude.{ℕ, List, length, Option, Some, None}
use Rattle.policy.specs.Line.{PolicyLine}
use Rattle.policy.specs.declared.line.Part.{Part}
use Rattle.layout.specs.Layout.{line_words}
unfoldable pub use Rattle.decode.specs.Stands.{in_part}
unfoldable pub use Rattle.decode.specs.Steps.Decoding.{said_in, add_part, decode, is_prefix, stands_at, keep_if}

-- the whole line of the part that the words begin with, in an image of the form, if there is one
unfoldable pub line_at : (form : ℕ) → Part → List ℕ → Option PolicyLine
line_at form part ws = keep_if (stands_at form part ws) (decode (said_in 0 ws))

-- how many words it has; 0 where there is none
unfoldable pub line_length : Option PolicyLine → ℕ
line_length None = 0
line_length (Some l) = length (line_words l)
