-- What the explaining program prints for two texts and its input, one row each.
use Rattle.std.specs.Prelude.{ℕ, List, [], ◌∷◌}
use Prim.Native.String.{String}
use Rattle.lexer.specs.Byte.{bytes}
use Rattle.questions.specs.Answered.{answers_printed}

pub record Example : Type 0 where
  pub maker : String
  pub site : String
  pub input : String
  pub output : String

abbrev row : String → String → String → String → Example
row m s i o = record { maker = m; site = s; input = i; output = o }

-- two lines of the maker's, and one of the site's
abbrev worked : String → String → Example
worked = row "E1 & !E2 causes A3 if R0 > 40\nnever A3 & A4" " E3 causes A4 \n"

unfoldable pub examples : List Example
examples =
    worked "A3 E1 E3 R0=41\nA4 E1 E3 R0=41\nA4 E1 E3 R0=40\nA3 E1 E3 R0=40\n"
    "1 accepted 1 E1 & !E2 causes A3 if R0 > 40\n2 cancelled 1 never A3 & A4\n3 accepted 2 E3 causes A4\n4 not proposed\n"
    -- an action alone asks of the empty epoch; the last line may lack its end
    ∷ worked "A4\nA4 \nA4  E3" "1 not proposed\n2 not proposed\n3 accepted 2 E3 causes A4\n"
    -- a first word that is no action is 12, a fault of the epoch comes before an action over 63
    ∷ worked "\n A4\nE4\nA04\nA64\nA64 E64\nA64 E\nA4 R0=1 R0=1\n"
    "1 refused 12\n2 refused 12\n3 refused 12\n4 refused 12\n5 refused 13\n6 refused 13\n7 refused 12\n8 refused 14\n"
    -- events that are pending, each behind a comma; no other name, and none over 63
    ∷ row "E1 triggers E60\nE60 causes A2\n" "never A2 if R0 > 5" "A2 E1\nA2,E60\nA2,E60 E1 R0=6\nA2,E1,E60,E2 R0=5\nA2,E60 E60\n"
    "1 not proposed\n2 cancelled 2 never A2 if R0 > 5\n3 cancelled 2 never A2 if R0 > 5\n4 accepted 1 E60 causes A2\n5 refused 18\n"
    ∷ worked "A4,E64\nA4,E1234567890123456789,E3 E3 R0=1 R0=1\nA4,E1234567890123456789,E3\nA4,\nA4,A3\n,A4\nA4,E3,\nA4,E03\n"
    "1 refused 13\n2 refused 14\n3 refused 13\n4 refused 12\n5 refused 12\n6 refused 12\n7 refused 12\n8 refused 12\n"
    -- no question
    ∷ worked "" ""
    -- refused texts, with questions or without
    ∷ row "E1" "E64 causes A1" "A1\n" "refused 2 text 1 line 1\n"
    ∷ row "" "\nE64 causes A1" "" "refused 3 text 2 line 2\n"
    ∷ []

unfoldable pub answered_to : Example → List ℕ
answered_to x = answers_printed (bytes x.maker) (bytes x.site) (bytes x.input)

unfoldable pub expected : Example → List ℕ
expected x = bytes x.output
