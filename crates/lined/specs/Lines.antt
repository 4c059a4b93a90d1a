-- The lines of an input. A line ends at byte 10; behind the last end stands the open line, which may be empty.
use Rattle.std.specs.Prelude.{◌≡◌, ℕ, suc, ◌<◌, false, List, [], ◌∷◌, ◌++◌, length, take, map, if◌then◌else◌}
use Rattle.std.specs.List.{list_any}
use Rattle.lexer.specs.Byte.{is_line_end}

-- ---- where `line` is open and these bytes follow

-- the lines that end in them, without their ends
abbrev pub ended_behind : (line bytes : List ℕ) → List (List ℕ)
ended_behind line [] = []
ended_behind line (byte ∷ bytes) = if is_line_end byte then line ∷ ended_behind [] bytes else ended_behind (line ++ byte ∷ []) bytes

-- the line that is open behind them
abbrev pub open_behind : (line bytes : List ℕ) → List ℕ
open_behind line [] = line
open_behind line (byte ∷ bytes) = if is_line_end byte then open_behind [] bytes else open_behind (line ++ byte ∷ []) bytes

-- ---- of a whole input

abbrev pub ended_lines : List ℕ → List (List ℕ)
ended_lines bytes = ended_behind [] bytes

abbrev pub open_line : List ℕ → List ℕ
open_line bytes = open_behind [] bytes

-- an open line at the end of the input is a line too
abbrev pub last_line : List ℕ → List (List ℕ)
last_line [] = []
last_line (byte ∷ bytes) = (byte ∷ bytes) ∷ []

-- of each line as many bytes as are handed on
abbrev pub cut_to : ℕ → List (List ℕ) → List (List ℕ)
cut_to most lines = map (take most) lines

-- ---- where the first one ends

abbrev pub HasNoEnd : List ℕ → Type 0
HasNoEnd bytes = list_any is_line_end bytes ≡ false

-- behind n bytes
abbrev pub EndsAt : List ℕ → ℕ → Type 0
EndsAt bytes n = (n < length bytes) × (take (suc n) bytes ≡ take n bytes ++ 10 ∷ []) × HasNoEnd (take n bytes)
