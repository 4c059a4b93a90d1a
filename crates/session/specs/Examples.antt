-- What the engine and the compiler print, one row each: in both modes, with the numbers of words, and for a text and for two.
use Rattle.std.specs.Prelude.{ℕ, List, [], ◌∷◌}
use Prim.Native.String.{String}
use Rattle.lexer.specs.Byte.{bytes}
use Rattle.session.specs.Listed.{listed, listed_texts}
use Rattle.session.specs.Printed.{printed, due}

pub record Example : Type 0 where
  pub input : String
  pub output : String

abbrev row : String → String → Example
row i o = record { input = i; output = o }

unfoldable pub sessions : List Example
sessions =
    row "E1 & !E2 causes A3 if R0 > 40\nE3 causes A4\nnever A3 & A4\nrun\nE1 E3 R0=41\nE1 E3 R0=40\nE1 E2 E3 R0=41\n\nE64\n"
    "1 accept A3 cancel A4 words 12\n2 accept A4 cancel - words 7\n3 accept A4 cancel - words 5\n4 accept - cancel - words 2\n5 refused 13 words 0\n"
    -- the last line may lack its end
    ∷ row "run\nE1" "1 accept - cancel - words 0\n"
    -- input that ends straight after a line end adds no epoch, a blank line is one
    ∷ row "run\n" ""
    ∷ row "run\n\n" "1 accept - cancel - words 0\n"
    -- only the first line `run` ends the text
    ∷ row "run\nrun\n" "1 refused 12 words 0\n"
    ∷ row "run" ""
    -- without one all is text
    ∷ row "" ""
    ∷ row "E1 causes A1\n" ""
    ∷ row "E1 causes A1\nE1" "refused 2 line 2\n"
    ∷ row " run\n" "refused 2 line 1\n"
    ∷ row "E1 causes A1\nE1 causes\nrun\nE1\n" "refused 2 line 2\n"
    -- the first row's text and epochs in the second mode
    ∷ row "E1 & !E2 causes A3 if R0 > 40\nE3 causes A4\nnever A3 & A4\nrun events\nE1 E3 R0=41\nE1 E3 R0=40\nE1 E2 E3 R0=41\n\nE64\n"
    "1 accept A3 cancel A4 words 21\n2 accept A4 cancel - words 16\n3 accept A4 cancel - words 16\n4 accept - cancel - words 3\n5 refused 13 words 0\n"
    -- Example 2 of Chomicki, Lobo and Naqvi, "Conflict Resolution Using Logic Programming" (TKDE 2003): E1, the order, is dropped, and
    -- the goods are neither mailed nor charged for
    ∷ row "E0 causes A0\nE1 causes A1\nE1 causes A2\nnever A0 & A1\nrun events\nE0 E1\n" "1 accept A0 cancel A1,A2 words 19\n"
    -- absence is taken from the full epoch: no reduction of the blank one is free of conflict
    ∷ row "!E0 causes A0\n!E0 causes A1\nnever A0 & A1\nrun events\n\nE0\n" "1 refused 17 words 0\n2 accept - cancel - words 6\n"
    -- the first of the two lines picks the mode, the other is an epoch
    ∷ row "never A1\nrun\nrun events\n\n" "1 refused 12 words 0\n2 accept - cancel - words 0\n"
    ∷ row "never A1\nrun events\nrun\n\n" "1 refused 12 words 0\n2 accept - cancel - words 1\n"
    -- a triggered event occurs in the next epoch that is accepted, once; a line may not name it
    ∷ row "E1 triggers E60\nE60 causes A2\nE2 causes A1\nnever A1 & A2\nrun\nE1\n\n\nE1\nE64\nE1 E2\nE2\nE60\nE2\n"
    "1 accept - cancel - words 4\n2 accept A2 cancel - words 5\n3 accept - cancel - words 3\n4 accept - cancel - words 4\n5 refused 13 words 0\n6 accept A1 cancel A2 words 11\n7 accept A1 cancel A2 words 10\n8 refused 18 words 0\n9 accept A1 cancel - words 6\n"
    -- a pending event is tried like a named one, and what is dropped triggers nothing
    ∷ row "E1 triggers E60\nE60 triggers E61\nE60 causes A2\nE61 causes A3\nE0 causes A1\nnever A1 & A2\nrun events\nE1\nE0\n\n"
    "1 accept - cancel - words 13\n2 accept A1 cancel A2 words 25\n3 accept - cancel - words 6\n"
    -- the line has exactly these bytes; at the end of the input it may lack its end
    ∷ row "run events \n" "refused 2 line 1\n"
    ∷ row "run events" ""
    ∷ []

-- what is due where more may follow
unfoldable pub dues : List Example
dues =
    -- a text is not answered, and the line that ends it only once it has ended
    row "" ""
    ∷ row "E1 causes A1\nE1" ""
    ∷ row "E1 causes A1\nE1 causes\nrun" ""
    ∷ row "E1 causes A1\nE1 causes\nrun\n" "refused 2 line 2\n"
    ∷ row "E1 causes A1\nE1 causes\nrun events\nE1\nE2" "refused 2 line 2\n"
    -- each epoch line once it has ended
    ∷ row "run\n" ""
    ∷ row "run\nE1" ""
    ∷ row "run\nE1\n" "1 accept - cancel - words 0\n"
    ∷ row "run\nrun\n\nE1" "1 refused 12 words 0\n2 accept - cancel - words 0\n"
    ∷ row "E1 & !E2 causes A3 if R0 > 40\nE3 causes A4\nnever A3 & A4\nrun\nE1 E3 R0=41\nE1 E3 R0=4" "1 accept A3 cancel A4 words 12\n"
    ∷ []

unfoldable pub listings : List Example
listings =
    row "E1 & !E2 causes A3 if R0 > 40\nE3 causes A4\nnever A3 & A4\n"
    "03007003\n10400004\n20800003\n30008001\n00000028\n50C00000\n10C00001\n51000000\n60C00002\n61000001\n70000000\n27827103\n907C9EC6\n"
    ∷ row "E1 causes A1 if R0 = 0x8040 , R1 = 0xFFFFFFFF , R2 = 0x80000000 , R3 = 0x7fffffff"
    "0300A000\n10400009\n30000007\n00008040\n30400005\nFFFFFFFF\n30800003\n80000000\n30C00001\n7FFFFFFF\n50400000\n21C2A14E\nB93C3E5B\n"
    ∷ row "E1 & E2 triggers E60 if R0 > 5" "03005000\n10400004\n10800003\n30008001\n00000005\n8F000000\n6F02502E\nAE3CDFC5\n"
    ∷ row "" "03000000\n03000000\nFA000000\n"
    ∷ row "# none\nE64 causes A1" "refused 3 line 2\n"
    ∷ []

pub record TextsExample : Type 0 where
  pub maker : String
  pub site : String
  pub output : String

abbrev texts : String → String → String → TextsExample
texts m s o = record { maker = m; site = s; output = o }

unfoldable pub texts_listings : List TextsExample
texts_listings =
    -- the worked text, a rule of it from the site; the maker's last line lacks its end
    texts "E1 & !E2 causes A3 if R0 > 40\nnever A3 & A4" "E3 causes A4\n"
    "03007003\n10400004\n20800003\n30008001\n00000028\n50C00000\n10C00001\n51000000\n60C00002\n61000001\n70000000\n27827103\n907C9EC6\n"
    ∷ texts "" "" "03000000\n03000000\nFA000000\n"
    -- the maker's faults come first; lines are counted from 1 in each text
    ∷ texts "# none\nE64 causes A1" "E1" "refused 3 text 1 line 2\n"
    ∷ texts "E1 causes A1\n" "\n\nE1" "refused 2 text 2 line 3\n"
    ∷ []

unfoldable pub expected : Example → List ℕ
expected x = bytes x.output

unfoldable pub session_printed : Example → List ℕ
session_printed x = printed (bytes x.input)

unfoldable pub session_due : Example → List ℕ
session_due x = due (bytes x.input)

unfoldable pub text_listed : Example → List ℕ
text_listed x = listed (bytes x.input)

unfoldable pub texts_listed : TextsExample → List ℕ
texts_listed x = listed_texts (bytes x.maker) (bytes x.site)
