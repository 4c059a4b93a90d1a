-- Going over an image from line to line. Nothing is checked, so that what comes is defined on any words: the skip of a line's first word
-- tells where the line ends. Where a line stands it comes, as a law says (`standing_given` in guarantees), so that `line_from` and
-- `told_length` need not be believed for images that are taken.
use Rattle.std.specs.Prelude.{ℕ, zero, suc, ◌+◌, min, List, [], ◌∷◌, ◌≡◌, MatchOption, length, take, drop, slice_index_or}
use Rattle.std.specs.Iterator.{YieldsFirst}
use Rattle.std.specs.declared.option.Option.{Option}
use Rattle.policy.specs.Line.{PolicyLine}
use Rattle.word.specs.Chunk.{words_in}
use Rattle.operation.specs.Fields.{skip_of}
use Rattle.decode.specs.Steps.Scan.{line_from}
use Rattle.image.specs.declared.walker.Walker.{Walker}

-- the lines, the first k words left out
unfoldable pub lines_behind : ℕ → List ℕ → List PolicyLine
lines_behind k [] = []
lines_behind zero (w ∷ ws) = line_from (w ∷ take (skip_of w) ws) ∷ lines_behind (skip_of w) ws
lines_behind (suc k) (w ∷ ws) = lines_behind k ws

-- those of the lines from the word `at` on
abbrev pub lines_left : List ℕ → ℕ → List PolicyLine
lines_left ws at = lines_behind 0 (drop at ws)

-- how many words the line has with which words begin, but no more than there are
abbrev pub told_length : List ℕ → ℕ
told_length ws = min (skip_of (slice_index_or ws 0 0) + 1) (length ws)

-- the lines that a walker has before it
abbrev pub lines_ahead : Walker → List PolicyLine
lines_ahead walker = lines_left (words_in walker.words.now) walker.at

-- the same walker, moved behind the line at which it stands
abbrev pub line_passed : Walker → Walker
line_passed walker = record { words = walker.words; at = walker.at + told_length (drop walker.at (words_in walker.words.now)) }

-- what a call of `next` answers, and where the walker then stands: behind the line that it gave, or where it stood, if there was none
abbrev pub GivesLine : Walker → Option PolicyLine → Walker → Type 0
GivesLine before line after = YieldsFirst lines_ahead before line after × MatchOption line (after ≡ before) (λ l. after ≡ line_passed before)

-- a walker before the first line of these words
pub record IsAtFirstLine (ws : List ℕ) (walker : Walker) : Type 0 where
  pub words : words_in walker.words.now ≡ ws
  pub start : walker.at ≡ 0
