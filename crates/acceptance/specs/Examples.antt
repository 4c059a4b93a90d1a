-- The worked texts and epoch lines, and lines that are easily read wrong, one row each.
use Rattle.policy.specs.declared.epoch.Epoch.{Epoch}
use Rattle.policy.specs.declared.fault.Refusal.{Refusal}
use Rattle.std.specs.Prelude.{ℕ, true, false, List, [], ◌∷◌, ℤ, pos, negsuc, set, replicate, Result, Ok, Err}
use Prim.Native.String.{String}
use Rattle.policy.specs.Fault.{refusal, within}
use Rattle.policy.specs.Policy.{Policy}
use Rattle.policy.specs.Set.{no_events, set_of}
use Rattle.policy.specs.declared.comparison.Comparison.{Comparison}
use Rattle.policy.specs.declared.comparison.Operand.{Operand}
use Rattle.policy.specs.declared.comparison.Relation.{Relation}
use Rattle.policy.specs.declared.effect.Effect.{Effect}
use Rattle.policy.specs.declared.fault.Fault.{Fault}
use Rattle.policy.specs.declared.fault.Source.{Source}
use Rattle.lexer.specs.Byte.{bytes}
use Rattle.epoch_line.specs.Epoch.{read_epoch, empty_epoch}
use Rattle.lexer.specs.Token.{literal_as}
use Rattle.rule_text.specs.Text.{read_text, read_texts, empty_policy}

-- ---- rule texts

abbrev worked : Policy
worked =
    record {
      rules =
          record {
            literals = literal_as false 1 ∷ literal_as true 2 ∷ [];
            effect = Effect.Causes (record { 0 = 3 });
            comparisons = record { reading = record { 0 = 0 }; relation = Relation.Greater; operand = Operand.Constant (pos 40) } ∷ [];
          }
          ∷ record { literals = literal_as false 3 ∷ []; effect = Effect.Causes (record { 0 = 4 }); comparisons = [] } ∷ [];
      constraints = record { actions = record { 0 = 3 } ∷ record { 0 = 4 } ∷ []; comparisons = [] } ∷ [];
    }

-- `E1 & E2 triggers E60 if R0 > 5`, `E1 triggers E1`
abbrev triggering : Policy
triggering =
    record {
      rules =
          record {
            literals = literal_as false 1 ∷ literal_as false 2 ∷ [];
            effect = Effect.Triggers (record { 0 = 60 });
            comparisons = record { reading = record { 0 = 0 }; relation = Relation.Greater; operand = Operand.Constant (pos 5) } ∷ [];
          }
          ∷ record { literals = literal_as false 1 ∷ []; effect = Effect.Triggers (record { 0 = 1 }); comparisons = [] } ∷ [];
      constraints = [];
    }

-- a reading compared with a constant
abbrev equals : ℕ → ℤ → Comparison
equals r k = record { reading = record { 0 = r }; relation = Relation.Equal; operand = Operand.Constant k }

-- the words of drives; below them leading zeros and digits of either case
abbrev patterns : Policy
patterns =
    record {
      rules =
          record {
            literals = literal_as false 1 ∷ [];
            effect = Effect.Causes (record { 0 = 1 });
            comparisons = equals 0 (pos 32832) ∷ equals 1 (negsuc 0) ∷ equals 2 (negsuc 2147483647) ∷ equals 3 (pos 2147483647) ∷ [];
          }
          ∷ [];
      constraints =
          record { actions = record { 0 = 1 } ∷ []; comparisons = equals 0 (pos 0) ∷ equals 1 (pos 1) ∷ equals 2 (pos 11259375) ∷ [] } ∷ [];
    }

pub record TextExample : Type 0 where
  pub form : ℕ
  pub text : String
  pub answer : Result Policy Refusal

abbrev row_for : ℕ → String → Result Policy Refusal → TextExample
row_for form text answer = record { form = form; text = text; answer = answer }

-- for the first form, which has the fewest lines
abbrev row : String → Result Policy Refusal → TextExample
row = row_for 1

-- refused in that text, at that line
abbrev refused_at : Source → Fault → ℕ → Result Policy Refusal
refused_at source f n = Err (within source (refusal f n))

unfoldable pub text_rows : List TextExample
text_rows =
    row "E1 & !E2 causes A3 if R0 > 40\nE3 causes A4\nnever A3 & A4\n" (Ok worked)
    ∷ row "  never A3 & A4 \n\n# comment\nE1  &  !E2 causes A3 if R0 > 40\n#\nE3 causes A4" (Ok worked)
    ∷ row "" (Ok empty_policy)
    ∷ row "\n \n" (Ok empty_policy)
    ∷ row
    "E1 causes A1 if R0 = 0x8040 , R1 = 0xFFFFFFFF , R2 = 0x80000000 , R3 = 0x7fffffff\nnever A1 if R0 = 0x00 , R1 = 0x00000001 , R2 = 0xAbCdEf\n"
    (Ok patterns)
    ∷ row "E01 causes A1" (refused_at Source.Maker Fault.Syntax 1)
    ∷ row "E1 causes A1 if R0 = -0" (refused_at Source.Maker Fault.Syntax 1)
    ∷ row "E1 causes A1 if R0 = 00" (refused_at Source.Maker Fault.Syntax 1)
    ∷ row "E1 causes A1 if R0 = 01" (refused_at Source.Maker Fault.Syntax 1)
    ∷ row "E1 causes A1 if R0 = +1" (refused_at Source.Maker Fault.Syntax 1)
    ∷ row "E1 causes A1 if R0 = 0x" (refused_at Source.Maker Fault.Syntax 1)
    ∷ row "E1 causes A1 if R0 = 0X1" (refused_at Source.Maker Fault.Syntax 1)
    ∷ row "E1 causes A1 if R0 = -0x1" (refused_at Source.Maker Fault.Syntax 1)
    ∷ row "E1 causes A1 if R0 = 0x1G" (refused_at Source.Maker Fault.Syntax 1)
    ∷ row "E1 causes A1 if R0 = 0x000000001G" (refused_at Source.Maker Fault.Syntax 1)
    ∷ row "E1 causes A1 if R0 = 0x 1" (refused_at Source.Maker Fault.Syntax 1)
    ∷ row "E1 causes A1 if R0 = R0x0" (refused_at Source.Maker Fault.Syntax 1)
    ∷ row "E1 causes A1 if R0x0 = 1" (refused_at Source.Maker Fault.Syntax 1)
    ∷ row "E0x1 causes A1" (refused_at Source.Maker Fault.Syntax 1)
    ∷ row "\nE causes A1" (refused_at Source.Maker Fault.Syntax 2)
    ∷ row "! E2 causes A1" (refused_at Source.Maker Fault.Syntax 1)
    ∷ row "!!E2 causes A1" (refused_at Source.Maker Fault.Syntax 1)
    ∷ row "E1 causes A1 if R0=40" (refused_at Source.Maker Fault.Syntax 1)
    ∷ row "E1 # x" (refused_at Source.Maker Fault.Syntax 1)
    ∷ row "never" (refused_at Source.Maker Fault.Syntax 1)
    ∷ row "E1 causes causes A1" (refused_at Source.Maker Fault.Syntax 1)
    ∷ row "E1 causes A1 if" (refused_at Source.Maker Fault.Syntax 1)
    ∷ row "E1 & causes A1" (refused_at Source.Maker Fault.Syntax 1)
    ∷ row "never A1 &" (refused_at Source.Maker Fault.Syntax 1)
    ∷ row "E1 causes A1 if R0 = 1 ," (refused_at Source.Maker Fault.Syntax 1)
    ∷ row "E64 causes A1 if" (refused_at Source.Maker Fault.Syntax 1)
    ∷ row "E1\tcauses A1" (refused_at Source.Maker Fault.Syntax 1)
    ∷ row "E1 causes A1\r\n" (refused_at Source.Maker Fault.Syntax 1)
    ∷ row "E64 causes A1" (refused_at Source.Maker Fault.OutOfRange 1)
    ∷ row "E1 causes A64" (refused_at Source.Maker Fault.OutOfRange 1)
    ∷ row "E1 causes A1 if R16 = 1" (refused_at Source.Maker Fault.OutOfRange 1)
    ∷ row "E1 causes A1 if R0 = R16" (refused_at Source.Maker Fault.OutOfRange 1)
    ∷ row "E1 causes A1 if R0 = 2147483648" (refused_at Source.Maker Fault.OutOfRange 1)
    ∷ row "E1 causes A1 if R0 = -2147483649" (refused_at Source.Maker Fault.OutOfRange 1)
    ∷ row "E1 causes A1 if R0 = 0x100000000" (refused_at Source.Maker Fault.OutOfRange 1)
    ∷ row "E1 causes A1 if R0 = 0x000000001" (refused_at Source.Maker Fault.OutOfRange 1)
    ∷ row "E0 & E1 & E2 & E3 & E4 & E5 & E6 & E7 & E100000000000000000000000000000 causes A1" (refused_at Source.Maker Fault.OutOfRange 1)
    ∷ row "E0 & E1 & E2 & E3 & E4 & E5 & E6 & E7 & E8 causes A1" (refused_at Source.Maker Fault.TooManyParts 1)
    ∷ row "E0 & E1 & E2 & E3 & E4 & E5 & E6 & E7 & E7 causes A1" (refused_at Source.Maker Fault.TooManyParts 1)
    ∷ row "never A1 if R0 = 1 , R0 = 1 , R0 = 1 , R0 = 1 , R0 = 1" (refused_at Source.Maker Fault.TooManyParts 1)
    ∷ row "# first\n\nE1 & !E1 causes A1" (refused_at Source.Maker Fault.Duplicate 3)
    ∷ row "never A1 & A2 & A1" (refused_at Source.Maker Fault.Duplicate 1)
    -- rules that trigger, which texts for form 3 and later forms have
    ∷ row_for 3 "E1 & E2 triggers E60 if R0 > 5\nE1 triggers E1" (Ok triggering)
    ∷ row_for 5 "E1 & E2 triggers E60 if R0 > 5\nE1 triggers E1" (Ok triggering)
    ∷ row_for 2 "E1 & E2 triggers E60 if R0 > 5" (refused_at Source.Maker Fault.Syntax 1)
    ∷ row_for 1 "E1 & E1 triggers E64" (refused_at Source.Maker Fault.Syntax 1)
    ∷ row_for 3 "E1 & E1 triggers E64" (refused_at Source.Maker Fault.OutOfRange 1)
    ∷ row_for 3 "E1 & E1 triggers E60" (refused_at Source.Maker Fault.Duplicate 1)
    ∷ row_for 3 "E1 triggers A1" (refused_at Source.Maker Fault.Syntax 1)
    ∷ row_for 3 "E1 triggers !E2" (refused_at Source.Maker Fault.Syntax 1)
    ∷ row_for 3 "E1 causes E2" (refused_at Source.Maker Fault.Syntax 1)
    ∷ row_for 3 "E1 triggers E2 & E3" (refused_at Source.Maker Fault.Syntax 1)
    ∷ []

-- ---- two texts as one

pub record PairExample : Type 0 where
  pub maker : String
  pub site : String
  pub answer : Result Policy Refusal

abbrev pair : String → String → Result Policy Refusal → PairExample
pair maker site answer = record { maker = maker; site = site; answer = answer }

unfoldable pub pair_rows : List PairExample
pair_rows =
    -- the maker's last line lacks its line end; in each part the maker's lines come first
    pair "never A3 & A4\nE1 & !E2 causes A3 if R0 > 40" "E3 causes A4" (Ok worked)
    ∷ pair "E1 & !E2 causes A3 if R0 > 40\nE3 causes A4\n" "# site\nnever A3 & A4\n" (Ok worked)
    ∷ pair "E1 & !E2 causes A3 if R0 > 40\nE3 causes A4\nnever A3 & A4\n" "" (Ok worked)
    ∷ pair "" "E1 & !E2 causes A3 if R0 > 40\nE3 causes A4\nnever A3 & A4\n" (Ok worked)
    ∷ pair "" "" (Ok empty_policy)
    -- the bytes are not joined
    ∷ pair "E1 causes" " A1" (refused_at Source.Maker Fault.Syntax 1)
    -- the maker's faults come first, and lines are counted from 1 in each text
    ∷ pair "\n\nE1" "E64 causes A1" (refused_at Source.Maker Fault.Syntax 3)
    ∷ pair "E64 causes A1" "E1" (refused_at Source.Maker Fault.OutOfRange 1)
    ∷ pair "E1 causes A1\n\n" "\nE1 & E1 causes A1\n" (refused_at Source.Site Fault.Duplicate 2)
    ∷ []

-- ---- epoch lines

pub record LineExample : Type 0 where
  pub line : String
  pub answer : Result Epoch Refusal

abbrev entry : String → Result Epoch Refusal → LineExample
entry line answer = record { line = line; answer = answer }

unfoldable pub epoch_line_rows : List LineExample
epoch_line_rows =
    entry "" (Ok empty_epoch)
    ∷ entry " E1 E3 E1  R0=41 " (Ok (record { events = set_of 10; readings = record { given = set_of 1; values = pos 41 ∷ replicate 15 (pos 0) } }))
    ∷ entry "R15=-2147483648 E63" (Ok (record { events = set_of 9223372036854775808; readings = record { given = set_of 32768; values = set (replicate 16 (pos 0)) 15 (negsuc 2147483647) } }))
    ∷ entry "R0=0x8040 R1=0xFFFFFFFF R2=0x00"
    (Ok (record { events = no_events; readings = record { given = set_of 7; values = pos 32832 ∷ negsuc 0 ∷ replicate 14 (pos 0) } }))
    ∷ entry "R15=0x80000000 R0=0x7fffffff"
    (Ok (record { events = no_events; readings = record { given = set_of 32769; values = set (pos 2147483647 ∷ replicate 15 (pos 0)) 15 (negsuc 2147483647) } }))
    ∷ entry "E1\nE2" (Err (refusal Fault.EpochSyntax 0))
    ∷ entry "E1 \n" (Err (refusal Fault.EpochSyntax 0))
    ∷ entry "E1=2" (Err (refusal Fault.EpochSyntax 0))
    ∷ entry "R0" (Err (refusal Fault.EpochSyntax 0))
    ∷ entry "R0=" (Err (refusal Fault.EpochSyntax 0))
    ∷ entry "R0=0x" (Err (refusal Fault.EpochSyntax 0))
    ∷ entry "R0=0X1" (Err (refusal Fault.EpochSyntax 0))
    ∷ entry "R0=-0x1" (Err (refusal Fault.EpochSyntax 0))
    ∷ entry "R0=0x1G" (Err (refusal Fault.EpochSyntax 0))
    ∷ entry "R0=0x000000001G" (Err (refusal Fault.EpochSyntax 0))
    ∷ entry "R0=0x 1" (Err (refusal Fault.EpochSyntax 0))
    ∷ entry "R0x0=1" (Err (refusal Fault.EpochSyntax 0))
    ∷ entry "E0x1" (Err (refusal Fault.EpochSyntax 0))
    ∷ entry "R0=0x000000001 R1=01" (Err (refusal Fault.EpochSyntax 0))
    ∷ entry "=1" (Err (refusal Fault.EpochSyntax 0))
    ∷ entry "R0=1=2" (Err (refusal Fault.EpochSyntax 0))
    ∷ entry "#" (Err (refusal Fault.EpochSyntax 0))
    ∷ entry "E64 E" (Err (refusal Fault.EpochSyntax 0))
    ∷ entry "E E64" (Err (refusal Fault.EpochSyntax 0))
    ∷ entry "R0=1 R0=1 E64" (Err (refusal Fault.EpochRange 0))
    ∷ entry "E64" (Err (refusal Fault.EpochRange 0))
    ∷ entry "R16=1" (Err (refusal Fault.EpochRange 0))
    ∷ entry "R0=2147483648" (Err (refusal Fault.EpochRange 0))
    ∷ entry "R0=0x000000001" (Err (refusal Fault.EpochRange 0))
    ∷ entry "R0=0x1 R0=0x000000001" (Err (refusal Fault.EpochRange 0))
    ∷ entry "R0=1 R0=0x1" (Err (refusal Fault.DuplicateReading 0))
    ∷ entry "R0=1 R0=1" (Err (refusal Fault.DuplicateReading 0))
    ∷ entry "R0=1 R0=2" (Err (refusal Fault.DuplicateReading 0))
    ∷ []

-- ---- what the definitions say of each row

unfoldable pub text_answer : TextExample → Result Policy Refusal
text_answer x = read_text x.form (bytes x.text)

unfoldable pub pair_answer : PairExample → Result Policy Refusal
pair_answer x = read_texts 1 (bytes x.maker) (bytes x.site)

unfoldable pub epoch_answer : LineExample → Result Epoch Refusal
epoch_answer x = read_epoch (bytes x.line)
