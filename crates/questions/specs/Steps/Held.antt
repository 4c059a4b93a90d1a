-- What is held of a line: what the names of its first word ask that have ended, and a short line behind them that asks the same as what
-- stands there, whatever both go on with.
use Rattle.std.specs.Str.{byte}
use Rattle.std.specs.Prelude.{◌≡◌, ℕ, ◌≤◌, Bool, true, not, ◌&&◌, List, [], ◌∷◌, ◌++◌, length, take, fold, nat_lt, ◌==◌, Option, None, option_map, if◌then◌else◌}
use Rattle.std.specs.List.{list_all}
use Rattle.lexer.specs.Byte.{is_digit}
use Rattle.lexer.specs.Number.{is_empty}
use Rattle.lexer.specs.Token.{named}
use Rattle.questions.specs.Answered.{in_word, word_of, epoch_part, names_in, first_asked, behind_comma}
use Rattle.questions.specs.Steps.Sizes.{epoch_held, name_held}
use Rattle.questions.specs.declared.names.Asked.{Asked}
use Rattle.questions.specs.declared.names.Names.{Names}

-- ---- the names

-- with one more
unfoldable pub asked_with : Names → List ℕ → Option Asked
asked_with Names.Nothing name = option_map first_asked (named (byte "A") name)
asked_with (Names.Ended asked) name = behind_comma asked name

-- with those that follow
unfoldable pub asked_in : Names → List (List ℕ) → Option Asked
asked_in names [] = None
asked_in names (name ∷ more) = fold behind_comma (asked_with names name) more

-- a name and a byte more: of a number over 63 no further digit tells anything, and behind what is no digit there is no number
unfoldable pub name_with : List ℕ → ℕ → List ℕ
name_with w b = if nat_lt 3 (length w) && is_digit b then w else take 3 w ++ b ∷ []

-- the names that have ended, and the one that is open
pub record Open : Type 0 where
  pub names : Names
  pub name : List ℕ

unfoldable pub with_byte : Open → ℕ → Open
with_byte o b =
    if b == byte "," then record { names = Names.Ended (asked_with o.names o.name); name = [] } else record { names = o.names; name = name_with o.name b }

-- ---- a line

-- a byte of a name
abbrev pub in_name : ℕ → Bool
in_name b = in_word b && not (b == byte ",")

-- the last name is short
pub record Short (line : List ℕ) : Type 0 where
  pub few : length (word_of line) ≤ name_held
  pub one : list_all in_name (word_of line) ≡ true

-- whether there is a byte of the line
abbrev pub is_begun : Names → List ℕ → Bool
is_begun Names.Nothing line = not (is_empty line)
is_begun (Names.Ended asked) line = true

-- all that matters of it
pub record Matter : Type 0 where
  pub begun : Bool
  pub asked : Option Asked
  pub epoch : List ℕ

unfoldable pub matter : Names → List ℕ → Matter
matter names line = record { begun = is_begun names line; asked = asked_in names (names_in (word_of line)); epoch = take epoch_held (epoch_part line) }

abbrev pub Alike : (names : Names) (line : List ℕ) (names' : Names) (line' : List ℕ) → Type 0
Alike names line names' line' = (rest : List ℕ) → matter names (line ++ rest) ≡ matter names' (line' ++ rest)

-- what is held where a part comes behind a line that is held
pub record Goes (names : Names) (line part : List ℕ) (names' : Names) (line' : List ℕ) : Type 0 where
  pub short : Short line'
  pub alike : Alike names' line' names (line ++ part)
