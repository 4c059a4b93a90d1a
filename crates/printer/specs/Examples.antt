-- Texts that are printed from their own policies: a worked example, rules that trigger, and each part of a line. All are read for the
-- first form that has rules that trigger.
use Rattle.std.specs.Prelude.{ℕ, List, [], ◌∷◌, Option, option_map}
use Prim.Native.String.{String}
use Rattle.policy.specs.Limits.{trigger_form}
use Rattle.lexer.specs.Byte.{bytes}
use Rattle.rule_text.specs.Text.{policy_of}
use Rattle.printer.specs.Printed.{text_of}

unfoldable pub printed_texts : List String
printed_texts =
    "E1 & !E2 causes A3 if R0 > 40\nE3 causes A4\nnever A3 & A4\n"
    ∷ "E1 & !E2 causes A3 if R0 > 40 , R1 <= R2\nnever A3 & A4 if R0 >= 0\n"
    ∷ "!E63 causes A0 if R15 = -2147483648 , R10 != 2147483647 , R9 < -1 , R0 >= 100\n"
    ∷ "E1 & E2 triggers E60 if R0 > 5\nE60 & !E1 triggers E1\nE60 causes A2\nnever A2\n" ∷ "" ∷ []

-- the text printed from the policy of a text
unfoldable pub reprinted : String → Option (List ℕ)
reprinted s = option_map text_of (policy_of trigger_form (bytes s))
