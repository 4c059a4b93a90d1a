-- Inputs of the decompiler and what it prints for them, one row each.
use Rattle.std.specs.Prelude.{ℕ, List, [], ◌∷◌}
use Prim.Native.String.{String}
use Rattle.lexer.specs.Byte.{bytes}
use Rattle.dump.specs.Dump.{restored}

pub record Example : Type 0 where
  pub input : String
  pub output : String

abbrev row : String → String → Example
row i o = record { input = i; output = o }

unfoldable pub dumps : List Example
dumps =
    -- the image of `E1 & !E2 causes A3 if R0 > 40`, `E3 causes A4` and `never A3 & A4`
    row "01007003\n10400004\n20800003\n30008001\n00000028\n50C00000\n10C00001\n51000000\n60C00002\n61000001\n70000000\nB9FF0FC9\n"
    "E1 & !E2 causes A3 if R0 > 40\nE3 causes A4\nnever A3 & A4\n"
    -- in small letters
    ∷ row "01007003\n10400004\n20800003\n30008001\n00000028\n50c00000\n10c00001\n51000000\n60c00002\n61000001\n70000000\nb9ff0fc9\n"
    "E1 & !E2 causes A3 if R0 > 40\nE3 causes A4\nnever A3 & A4\n"
    -- the last line may lack its end
    ∷ row "01007003\n10400004\n20800003\n30008001\n00000028\n50C00000\n10C00001\n51000000\n60C00002\n61000001\n70000000\nB9FF0FC9"
    "E1 & !E2 causes A3 if R0 > 40\nE3 causes A4\nnever A3 & A4\n"
    -- a wrong last digit
    ∷ row "01007003\n10400004\n20800003\n30008001\n00000028\n50C00000\n10C00001\n51000000\n60C00002\n61000001\n70000000\nB9FF0FC8\n"
    "refused 10 word 0\n"
    -- a line that triggers an event
    ∷ row "03005000\n10400004\n10800003\n30008001\n00000005\n8F000000\n6F02502E\nAE3CDFC5\n" "E1 & E2 triggers E60 if R0 > 5\n"
    -- the image of the empty text
    ∷ row "01000000\nFF000000\n" ""
    -- no words, one word
    ∷ row "" "refused 7 word 0\n"
    ∷ row "01000000" "refused 7 word 0\n"
    -- a blank line
    ∷ row "\n" "line 1 is not a word\n"
    ∷ row "01000000\n\nFF000000\n" "line 2 is not a word\n"
    -- nine digits, seven, and a byte that is none
    ∷ row "01000000\nFF0000000\n" "line 2 is not a word\n"
    ∷ row "01000000\nFF00000" "line 2 is not a word\n"
    ∷ row "0100000G\nFF000000\n" "line 1 is not a word\n"
    ∷ row "01000000 \nFF000000\n" "line 1 is not a word\n"
    ∷ []

unfoldable pub dump_restored : Example → List ℕ
dump_restored x = restored (bytes x.input)

unfoldable pub expected : Example → List ℕ
expected x = bytes x.output
