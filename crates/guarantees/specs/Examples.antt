-- Worked examples as rows of one table: a text and epoch lines, with their modes, and the answers, or a text with the words of its
-- image.
use Rattle.std.specs.Prelude.{ℕ, true, List, [], ◌∷◌, map, Option, Some, None, option_map}
use Prim.Native.String.{String}
use Rattle.policy.specs.Set.{no_actions, actions_from}
use Rattle.policy.specs.declared.mode.Mode.{Mode}
use Rattle.pdl.specs.Answer.{Answer, issues}
use Rattle.lexer.specs.Byte.{bytes}
use Rattle.rule_text.specs.Text.{policy_of}
use Rattle.codegen.specs.Compile.{newest_form}
use Rattle.layout.specs.Layout.{image_words}
use Rattle.guarantees.specs.Machine.{ToldLine, machine}

pub record ModeLine : Type 0 where
  pub mode : Mode
  pub line : String

abbrev by_actions : String → ModeLine
by_actions line = record { mode = Mode.Actions; line = line }

abbrev by_events : String → ModeLine
by_events line = record { mode = Mode.Events; line = line }

pub data Example : Type 0 where
  answers : String → List String → Option (List Answer) → Example
  words : ℕ → String → Option (List ℕ) → Example
  -- each line in its own mode
  told : String → List ModeLine → Option (List Answer) → Example

abbrev decided : List ℕ → List ℕ → Answer
decided accepted cancelled = issues (actions_from accepted) (actions_from cancelled)

abbrev refused_under : ℕ → Answer
refused_under n = record { is_refused = true; number = n; text = 0; location = 0; accepted = no_actions; cancelled = no_actions }

abbrev worked : String
worked = "E1 & !E2 causes A3 if R0 > 40\nE3 causes A4\nnever A3 & A4\n"

-- 0100A000, 10400009, then four comparisons with 00008040, FFFFFFFF, 80000000 and 7FFFFFFF, and the action and the last word
abbrev patterns : List ℕ
patterns =
    16818176 ∷ 272629769 ∷ 805306375 ∷ 32832 ∷ 809500677 ∷ 4294967295 ∷ 813694979 ∷ 2147483648 ∷ 817889281 ∷ 2147483647 ∷ 1346371584 ∷ 3707690921 ∷ []

unfoldable pub examples : List Example
examples =
    -- five epochs of one text, the last of them refused
    answers worked ("E1 E3 R0=41" ∷ "E1 E3 R0=40" ∷ "E1 E2 E3 R0=41" ∷ "" ∷ "E64" ∷ [])
    (Some (decided (3 ∷ []) (4 ∷ []) ∷ decided (4 ∷ []) [] ∷ decided (4 ∷ []) [] ∷ decided [] [] ∷ refused_under 13 ∷ []))
    -- the empty text: 01000000, FF000000
    ∷ words 1 "" (Some (16777216 ∷ 4278190080 ∷ []))
    -- never A1 & A2, never A2 & A3, all three proposed
    ∷ answers "E1 causes A1\nE1 causes A2\nE1 causes A3\nnever A1 & A2\nnever A2 & A3\n" ("E1" ∷ []) (Some (decided (1 ∷ 3 ∷ []) (2 ∷ []) ∷ []))
    -- never A1 & A2 & A3, all proposed
    ∷ answers "E1 causes A1\nE1 causes A2\nE1 causes A3\nnever A1 & A2 & A3\n" ("E1" ∷ []) (Some (decided (1 ∷ 2 ∷ []) (3 ∷ []) ∷ []))
    -- never A5 alone
    ∷ answers "E1 causes A5\nnever A5\n" ("E1" ∷ []) (Some (decided [] (5 ∷ []) ∷ []))
    -- never A1 & A2 if R0 >= 100, both proposed, at 99 and at 100
    ∷ answers "E1 causes A1\nE1 causes A2\nnever A1 & A2 if R0 >= 100\n" ("E1 R0=99" ∷ "E1 R0=100" ∷ [])
    (Some (decided (1 ∷ 2 ∷ []) [] ∷ decided (1 ∷ []) (2 ∷ []) ∷ []))
    -- a reading given twice; an event named twice
    ∷ answers worked ("R0=1 R0=1" ∷ "E1 E1 R0=41" ∷ []) (Some (refused_under 14 ∷ decided (3 ∷ []) [] ∷ []))
    -- the worked image, 01007003 to B9FF0FC9
    ∷ words 1 worked
    (Some (16805891 ∷ 272629764 ∷ 545259523 ∷ 805339137 ∷ 40 ∷ 1354760192 ∷ 281018369 ∷ 1358954496 ∷ 1623195650 ∷ 1627389953 ∷ 1879048192 ∷ 3120500681 ∷ []))
    -- the same in form 2, 02007003 to 927C9EC6, and the empty text's
    ∷ words 2 worked
    (Some (33583107 ∷ 272629764 ∷ 545259523 ∷ 805339137 ∷ 40 ∷ 1354760192 ∷ 281018369 ∷ 1358954496 ∷ 1623195650 ∷ 1627389953 ∷ 1879048192 ∷ 646082819 ∷ 2457640646 ∷ []))
    ∷ words 2 "" (Some (33554432 ∷ 33554432 ∷ 4227858432 ∷ []))
    -- a never line with R4 under, at and over its limit, and missing
    ∷ answers "E1 causes A7\nnever A7 if R4 > 90\n" ("E1 R4=89" ∷ "E1 R4=90" ∷ "E1 R4=91" ∷ "E1" ∷ "" ∷ [])
    (Some (decided (7 ∷ []) [] ∷ decided (7 ∷ []) [] ∷ decided [] (7 ∷ []) ∷ decided [] (7 ∷ []) ∷ decided [] [] ∷ []))
    -- in a rule no comparison with a missing reading holds; a given 0 is not missing
    ∷ answers "E1 causes A1 if R4 != 5\nE1 causes A2 if R4 = R4\nE1 causes A3 if R0 <= R4\nE1 causes A4\n" ("E1 R0=0" ∷ "E1 R0=0 R4=0" ∷ [])
    (Some (decided (4 ∷ []) [] ∷ decided (1 ∷ 2 ∷ 3 ∷ 4 ∷ []) [] ∷ []))
    -- in a never line each does, for itself: with R0=5 the second comparison of the last line fails
    ∷ answers "E1 causes A1\nE1 causes A2\nE1 causes A3\nE1 causes A4\nnever A1 if R4 != 5\nnever A2 if R4 = R4\nnever A3 if R0 < R4\nnever A4 if R4 > 90 , R0 > 5\n"
    ("E1 R0=5" ∷ "E1 R0=6" ∷ "E1 R0=5 R4=5" ∷ [])
    (Some (decided (4 ∷ []) (1 ∷ 2 ∷ 3 ∷ []) ∷ decided [] (1 ∷ 2 ∷ 3 ∷ 4 ∷ []) ∷ decided (1 ∷ 3 ∷ 4 ∷ []) (2 ∷ []) ∷ []))
    -- patterns in hexadecimal stand in the image as they are, and so do the numbers that the writer prints for them
    ∷ words 1 "E1 causes A1 if R0 = 0x8040 , R1 = 0xFFFFFFFF , R2 = 0x80000000 , R3 = 0x7fffffff\n" (Some patterns)
    ∷ words 1 "E1 causes A1 if R0 = 32832 , R1 = -1 , R2 = -2147483648 , R3 = 2147483647\n" (Some patterns)
    -- a status word, in either form in the text and in the epoch; `0X`, nine digits, and both
    ∷ answers "E1 causes A1 if R0 = 0x8040\nE1 causes A2 if R0 = 32832\nE1 causes A3 if R0 < 0xFFFFFFFF\nnever A1 & A2 if R1 != 0x0\n"
    ("E1 R0=0x8040 R1=0" ∷ "E1 R0=32832 R1=0x00000001" ∷ "E1 R0=0x80000000" ∷ "E1 R0=0X8040" ∷ "E1 R0=0x000008040" ∷ "R0=0x000008040 R1=0x" ∷ [])
    (Some (decided (1 ∷ 2 ∷ []) [] ∷ decided (1 ∷ []) (2 ∷ []) ∷ decided (3 ∷ []) [] ∷ refused_under 12 ∷ refused_under 13 ∷ refused_under 12 ∷ []))
    -- the five epochs in the second mode
    ∷ told worked (by_events "E1 E3 R0=41" ∷ by_events "E1 E3 R0=40" ∷ by_events "E1 E2 E3 R0=41" ∷ by_events "" ∷ by_events "E64" ∷ [])
    (Some (decided (3 ∷ []) (4 ∷ []) ∷ decided (4 ∷ []) [] ∷ decided (4 ∷ []) [] ∷ decided [] [] ∷ refused_under 13 ∷ []))
    -- Example 2 of Chomicki, Lobo and Naqvi, "Conflict Resolution Using Logic Programming" (TKDE 2003): E0 a defective product, E1 an
    -- order; A0 stop, A1 mail, A2 charge. By events the order is dropped whole
    ∷ told "E0 causes A0\nE1 causes A1\nE1 causes A2\nnever A0 & A1\n" (by_actions "E0 E1" ∷ by_events "E0 E1" ∷ by_events "E1" ∷ [])
    (Some (decided (0 ∷ 2 ∷ []) (1 ∷ []) ∷ decided (0 ∷ []) (1 ∷ 2 ∷ []) ∷ decided (1 ∷ 2 ∷ []) [] ∷ []))
    -- E2, a service call, is charged all the same
    ∷ told "E0 causes A0\nE1 causes A1\nE1 causes A2\nE2 causes A2\nnever A0 & A1\n" (by_events "E0 E1 E2" ∷ []) (Some (decided (0 ∷ 2 ∷ []) (1 ∷ []) ∷ []))
    -- a dropped event is not absent
    ∷ told "E0 causes A0\nE1 causes A1\n!E1 causes A2\nnever A0 & A1\n" (by_events "E0 E1" ∷ by_events "E0" ∷ [])
    (Some (decided (0 ∷ []) (1 ∷ []) ∷ decided (0 ∷ 2 ∷ []) [] ∷ []))
    -- a clash of rules with negated literals alone
    ∷ told "!E0 causes A0\n!E0 causes A1\nnever A0 & A1\n" (by_events "" ∷ by_actions "" ∷ by_events "E0" ∷ [])
    (Some (refused_under 17 ∷ decided (0 ∷ []) (1 ∷ []) ∷ decided [] [] ∷ []))
    -- a line that triggers an event, in the forms that have it and in one that has not
    ∷ words 3 "E1 & E2 triggers E60 if R0 > 5" (Some (50352128 ∷ 272629764 ∷ 276824067 ∷ 805339137 ∷ 5 ∷ 2399141888 ∷ 1862422574 ∷ 2923225029 ∷ []))
    ∷ words 5 "E1 & E2 triggers E60 if R0 > 5" (Some (83906560 ∷ 272629764 ∷ 276824067 ∷ 805339137 ∷ 5 ∷ 2399141888 ∷ 1895977006 ∷ 2856116165 ∷ []))
    ∷ words 2 "E1 & E2 triggers E60 if R0 > 5" None
    -- what it triggers occurs in the next epoch that is accepted, once; a line may not name it
    ∷ answers "E1 triggers E60\nE60 causes A2\nE2 causes A1\nnever A1 & A2\n" ("E1" ∷ "" ∷ "" ∷ "E1" ∷ "E64" ∷ "E1 E2" ∷ "E2" ∷ "E60" ∷ "E2" ∷ [])
    (Some (
    decided [] [] ∷ decided (2 ∷ []) [] ∷ decided [] [] ∷ decided [] [] ∷ refused_under 13 ∷ decided (1 ∷ []) (2 ∷ []) ∷ decided (1 ∷ []) (2 ∷ []) ∷ refused_under 18
    ∷ decided (1 ∷ []) [] ∷ []))
    -- by events a pending event is tried like a named one, what is dropped triggers nothing, and a refused epoch leaves what is pending
    ∷ told "E1 triggers E60\nE60 triggers E61\nE60 causes A2\nE61 causes A3\nE0 causes A1\nnever A1 & A2\nnever A4\n!E9 causes A4\n"
    (by_events "E1 E9" ∷ by_events "E0" ∷ by_events "E0 E9" ∷ by_actions "E9" ∷ [])
    (Some (decided [] [] ∷ refused_under 17 ∷ decided (1 ∷ []) (2 ∷ []) ∷ decided [] [] ∷ []))
    ∷ []

abbrev line_of : ModeLine → ToldLine
line_of x = record { mode = x.mode; line = bytes x.line }

-- what the definitions say of a row
unfoldable pub computed : Example → Example
computed (answers text lines expected) = answers text lines (machine newest_form (bytes text) (map (λ (line : String). line_of (by_actions line)) lines))
computed (words form text expected) = words form text (option_map (image_words form) (policy_of form (bytes text)))
computed (told text lines expected) = told text lines (machine newest_form (bytes text) (map line_of lines))
