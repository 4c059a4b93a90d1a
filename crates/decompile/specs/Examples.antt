-- Images and what the decompiler makes of them, one row each: a worked example, a line with every kind of part,
-- patterns, a rule that triggers, and the order of the faults. A buffer is full of dots at first.
use Rattle.std.specs.Prelude.{Result, Ok, Err, ℕ, List, [], ◌∷◌, replicate, Option, Some, None}
use Rattle.std.specs.Str.{byte}
use Prim.Native.String.{String}
use Rattle.policy.specs.Fault.{refusal}
use Rattle.policy.specs.Fill.{Filled}
use Rattle.policy.specs.Policy.{Policy}
use Rattle.policy.specs.declared.fault.Fault.{Fault}
use Rattle.policy.specs.declared.fault.Refusal.{Refusal}
use Rattle.lexer.specs.Byte.{bytes}
use Rattle.rule_text.specs.Text.{policy_of}
use Rattle.word.specs.Word.{bytes_of}
use Rattle.layout.specs.Layout.{image_of}
use Rattle.decompile.specs.Decompile.{decompiled}

pub record Example : Type 0 where
  pub image : List ℕ
  pub room : ℕ
  pub output : Filled

abbrev row : List ℕ → ℕ → Result ℕ Refusal → String → Example
row image room answer buffer = record { image = image; room = room; output = record { answer = answer; buffer = bytes buffer } }

-- 01007003, 10400004, 20800003, 30008001, 00000028, 50C00000, 10C00001, 51000000, 60C00002, 61000001, 70000000, and the last word
unfoldable pub worked_with : ℕ → List ℕ
worked_with last =
    bytes_of (16805891 ∷ 272629764 ∷ 545259523 ∷ 805339137 ∷ 40 ∷ 1354760192 ∷ 281018369 ∷ 1358954496 ∷ 1623195650 ∷ 1627389953 ∷ 1879048192 ∷ last ∷ [])

-- 03005000, 10400004, 10800003, 30008001, 00000005, 8F000000, 6F02502E, AE3CDFC5: form 3, with a rule that triggers
unfoldable pub boosting : List ℕ
boosting = bytes_of (50352128 ∷ 272629764 ∷ 276824067 ∷ 805339137 ∷ 5 ∷ 2399141888 ∷ 1862422574 ∷ 2923225029 ∷ [])

unfoldable pub image_in : Option Policy → List ℕ
image_in None = []
image_in (Some p) = image_of 1 p

unfoldable pub image_from : String → List ℕ
image_from text = image_in (policy_of 1 (bytes text))

unfoldable pub examples : List Example
examples =
    -- B9FF0FC9 brings the sum to 0
    row (worked_with 3120500681) 60 (Ok 57) "E1 & !E2 causes A3 if R0 > 40\nE3 causes A4\nnever A3 & A4\n..."
    -- one byte short
    ∷ row (worked_with 3120500681) 56 (Err (refusal Fault.BufferTooSmall 0)) "........................................................"
    -- a wrong sum comes before too little room
    ∷ row (worked_with 3120500682) 4 (Err (refusal Fault.ImageSum 0)) "...."
    -- rules first; spaces, comments and blank lines are not held
    ∷ row (image_from "# start\n never  A63 & A0 if  R15 != R0 , R10 <= -1\n\n  !E63 & E9  causes A10 if R1 = 0 , R2 < 2147483647 , R3 > R4 , R5 >= -2147483648")
    120 (Ok 119)
    "!E63 & E9 causes A10 if R1 = 0 , R2 < 2147483647 , R3 > R4 , R5 >= -2147483648\nnever A63 & A0 if R15 != R0 , R10 <= -1\n."
    -- a pattern is written in decimal
    ∷ row (image_from "E1 causes A1 if R0 = 0x8040 , R1 = 0xFFFFFFFF , R2 = 0x80000000 , R3 = 0x7fffffff") 75 (Ok 74)
    "E1 causes A1 if R0 = 32832 , R1 = -1 , R2 = -2147483648 , R3 = 2147483647\n."
    ∷ row boosting 31 (Ok 31) "E1 & E2 triggers E60 if R0 > 5\n"
    -- the empty policy, 01000000 and FF000000, fits an empty buffer
    ∷ row (bytes_of (16777216 ∷ 4278190080 ∷ [])) 0 (Ok 0) ""
    ∷ []

unfoldable pub computed : Example → Example
computed x = record { image = x.image; room = x.room; output = decompiled x.image (replicate x.room (byte ".")) }
