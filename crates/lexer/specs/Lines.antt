-- Lines and tokens.
use Rattle.std.specs.Str.{byte}
use Rattle.std.specs.Prelude.{ℕ, Bool, not, List, [], ◌∷◌, drop, ◌==◌, if◌then◌else◌}
use Rattle.lexer.specs.Byte.{is_line_end}

unfoldable pub prepend : ℕ → List (List ℕ) → List (List ℕ)
prepend b [] = (b ∷ []) ∷ []
prepend b (p ∷ ps) = (b ∷ p) ∷ ps

-- pieces that end at a byte; the last may lack it
unfoldable pub pieces : ℕ → List ℕ → List (List ℕ)
pieces end [] = []
pieces end (b ∷ s) = if b == end then [] ∷ pieces end s else prepend b (pieces end s)

-- lines end at byte 10; the last may lack it
unfoldable pub lines_of : List ℕ → List (List ℕ)
lines_of text = pieces 10 text

unfoldable pub non_empty : List (List ℕ) → List (List ℕ)
non_empty [] = []
non_empty ([] ∷ ps) = non_empty ps
non_empty ((b ∷ p) ∷ ps) = (b ∷ p) ∷ non_empty ps

-- one or more spaces stand between tokens; spaces may stand before the first and after the last
unfoldable pub tokens_of : List ℕ → List (List ℕ)
tokens_of line = non_empty (pieces (byte " ") line)

-- ---- what stands in front of a text, and what behind that

module _ {A : Type 0} where
  -- the longest part from the start whose elements all pass
  abbrev pub take_leading : (A → Bool) → List A → List A
  take_leading p [] = []
  take_leading p (x ∷ xs) = if p x then x ∷ take_leading p xs else []

  -- what stands behind that part
  abbrev pub drop_leading : (A → Bool) → List A → List A
  drop_leading p [] = []
  drop_leading p (x ∷ xs) = if p x then drop_leading p xs else x ∷ xs

abbrev pub in_line : ℕ → Bool
in_line b = not (is_line_end b)

-- the first line of a text, without its end
abbrev pub first_line : List ℕ → List ℕ
first_line text = take_leading in_line text

-- what stands behind it: its line end in front, or nothing
abbrev pub behind_line : List ℕ → List ℕ
behind_line text = drop_leading in_line text

-- a text that starts with a line end, without it
abbrev pub without_end : List ℕ → List ℕ
without_end text = drop 1 text
