-- The fields of a word, packed most significant first.
use Rattle.std.specs.Prelude.{ℕ, ◌+◌, ◌*◌, ◌/◌, ◌%◌, ◌^◌, ◌<◌}
use Rattle.operation.specs.Operation.{opcode, operation_from}
use Rattle.operation.specs.declared.operation.Operation.{Operation}

-- what each field behind the operation can hold
pub record InFields (first second relation skip : ℕ) : Type 0 where
  pub first_below : first < 64
  pub second_below : second < 64
  pub relation_below : relation < 8
  pub skip_below : skip < 32

unfoldable pub pack : Operation → ℕ → ℕ → ℕ → ℕ → ℕ
pack operation first second relation skip = opcode operation * 2 ^ 28 + first * 2 ^ 22 + second * 2 ^ 16 + relation * 2 ^ 13 + skip

abbrev pub opcode_of : ℕ → ℕ
opcode_of w = w / 2 ^ 28 % 16

abbrev pub operation_of : ℕ → Operation
operation_of w = operation_from (opcode_of w)

abbrev pub first_of : ℕ → ℕ
first_of w = w / 2 ^ 22 % 64

abbrev pub second_of : ℕ → ℕ
second_of w = w / 2 ^ 16 % 64

abbrev pub relation_code_of : ℕ → ℕ
relation_code_of w = w / 2 ^ 13 % 8

-- the eight bits between the relation and the skip are 0
abbrev pub skip_of : ℕ → ℕ
skip_of w = w % 32
