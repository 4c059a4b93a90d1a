-- What is said of an action, one row each: two texts, the events that are pending, an epoch line and the action's number.
use Rattle.std.specs.Prelude.{ℕ, List, [], ◌∷◌, Result, Ok, Err}
use Prim.Native.String.{String}
use Rattle.policy.specs.Fault.{fault_number, source_number}
use Rattle.policy.specs.declared.fault.Refusal.{Refusal}
use Rattle.policy.specs.Set.{EventSet}
use Rattle.pdl.specs.Examples.{events_from}
use Rattle.lexer.specs.Byte.{bytes}
use Rattle.explanation.specs.Part.{of_maker, of_site}
use Rattle.explanation.specs.Why as Why
use Rattle.explanation.specs.Why.{Explanation, accepted_by, cancelled_by, explained}

-- the number of the text that the shown part is from, and its bytes; and of a refusal the fault's number, the text's, and the line
pub data Said : Type 0 where
  is_accepted : ℕ → List ℕ → Said
  is_cancelled : ℕ → List ℕ → Said
  is_not_proposed : Said
  is_refused : ℕ → ℕ → ℕ → Said

pub record Example : Type 0 where
  pub maker : String
  pub site : String
  pub pending : EventSet
  pub line : String
  pub action : ℕ
  pub said : Said

-- where events of these numbers are pending
abbrev row_behind : String → String → List ℕ → String → ℕ → Said → Example
row_behind maker site pending line action said = record { maker = maker; site = site; pending = events_from pending; line = line; action = action; said = said }

-- where none is
abbrev row : String → String → String → ℕ → Said → Example
row maker site = row_behind maker site []

abbrev accepted : ℕ → String → Said
accepted text part = is_accepted text (bytes part)

abbrev cancelled : ℕ → String → Said
cancelled text part = is_cancelled text (bytes part)

abbrev not_proposed : Said
not_proposed = is_not_proposed

abbrev refused : ℕ → ℕ → ℕ → Said
refused = is_refused

-- the maker's lines; the site adds `E3 causes A4`
abbrev worked : String
worked = "E1 & !E2 causes A3 if R0 > 40\nnever A3 & A4\n"

abbrev three : String
three = "E1 causes A1\nE1 causes A2\nE1 causes A3\n"

-- what is triggered proposes in the next epoch
abbrev triggering : String
triggering = "E1 triggers E60\nE60 causes A2\n"

unfoldable pub explanations : List Example
explanations =
    row worked "E3 causes A4\n" "E1 E3 R0=41" 3 (accepted 1 "E1 & !E2 causes A3 if R0 > 40")
    ∷ row worked "E3 causes A4\n" "E1 E3 R0=41" 4 (cancelled 1 "never A3 & A4")
    ∷ row worked "E3 causes A4\n" "E1 E3 R0=41" 5 not_proposed
    ∷ row worked "E3 causes A4\n" "E1 E3 R0=40" 3 not_proposed
    ∷ row worked "E3 causes A4\n" "E1 E3 R0=40" 4 (accepted 2 "E3 causes A4")
    ∷ row "" "" "E1" 63 not_proposed
    -- spaces at both ends go, those inside stay; the last line lacks its end
    ∷ row "\n# maker\n   E1  causes A1  \nE1 causes A2 " "  never A1  &  A2  " "E1" 1 (accepted 1 "E1  causes A1")
    ∷ row "\n# maker\n   E1  causes A1  \nE1 causes A2 " "  never A1  &  A2  " "E1" 2 (cancelled 2 "never A1  &  A2")
    -- the first line of those that say so, the maker's before the site's
    ∷ row "E2 causes A1\nE1 causes A1\n" "E1 causes A1\n" "E1" 1 (accepted 1 "E1 causes A1")
    ∷ row "E2 causes A1\n" "E3 causes A1\nE1 causes A1\nE1 & !E2 causes A1\n" "E1" 1 (accepted 2 "E1 causes A1")
    ∷ row three "never A2\nnever A1 & A2\n" "E1" 2 (cancelled 2 "never A2")
    ∷ row "E1 causes A2\nnever A2 if R0 > 5\nnever A2 if R0 > 4\n" "never A2\n" "E1 R0=5" 2 (cancelled 1 "never A2 if R0 > 4")
    -- A3 is accepted after A2 was tried, so the line with it did not hold then; nor did one with an action that was cancelled before
    ∷ row three "never A2 & A3\nnever A1 & A2\n" "E1" 2 (cancelled 2 "never A1 & A2")
    ∷ row three "never A2 & A3\nnever A1 & A2\n" "E1" 3 (accepted 1 "E1 causes A3")
    ∷ row three "never A1\nnever A1 & A2\nnever A2\n" "E1" 2 (cancelled 2 "never A2")
    -- a comparison with a missing reading
    ∷ row "E1 causes A7\n" "never A7 if R4 > 90\n" "E1" 7 (cancelled 2 "never A7 if R4 > 90")
    -- faults: the maker's text, the site's, the epoch line, the action
    ∷ row "\nE1\n" "E1\n" "E" 64 (refused 2 1 2)
    ∷ row "E1 causes A1\n" "E1 causes A64\n" "E" 64 (refused 3 2 1)
    ∷ row "E1 causes A1\n" "" "E" 64 (refused 12 0 0)
    ∷ row "E1 causes A1\n" "" "R0=1 R0=1" 64 (refused 14 0 0)
    ∷ row "E1 causes A1\n" "" "E1" 64 (refused 13 0 0)
    -- an event that is pending, and one that the line names though some rule triggers it
    ∷ row triggering "" "E1" 2 not_proposed
    ∷ row_behind triggering "" (60 ∷ []) "" 2 (accepted 1 "E60 causes A2")
    ∷ row_behind triggering "never A2 if R0 > 5" (1 ∷ 60 ∷ []) "R0=6" 2 (cancelled 2 "never A2 if R0 > 5")
    ∷ row triggering "" "E1 E60" 64 (refused 18 0 0)
    ∷ row_behind "E1 causes A1\n" "E2 triggers E60" (60 ∷ []) "E60 R0=1 R0=1" 1 (refused 14 0 0)
    ∷ row_behind triggering "" (60 ∷ []) "E2" 64 (refused 13 0 0)
    -- a rule that triggers an event proposes no action, though it has the number
    ∷ row "E1 triggers E2\nE1 causes A2\n" "" "E1" 2 (accepted 1 "E1 causes A2")
    ∷ []

-- ---- what the definitions say of a row

unfoldable pub said_in : Result Explanation Refusal → Said
said_in (Err r) = is_refused (fault_number r.fault) (source_number r.source) r.location
said_in (Ok Why.not_proposed) = is_not_proposed
said_in (Ok (accepted_by (of_maker x))) = is_accepted 1 x.bytes
said_in (Ok (accepted_by (of_site x))) = is_accepted 2 x.bytes
said_in (Ok (cancelled_by (of_maker x))) = is_cancelled 1 x.bytes
said_in (Ok (cancelled_by (of_site x))) = is_cancelled 2 x.bytes

unfoldable pub said_of : Example → Said
said_of x = said_in (explained (bytes x.maker) (bytes x.site) x.pending (bytes x.line) x.action)
