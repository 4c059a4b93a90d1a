-- The tables of operations and relations, each number both ways.
use Rattle.std.specs.Prelude.{ℕ, List, [], ◌∷◌, slice_index_or}
use Rattle.policy.specs.declared.comparison.Relation.{Relation}
use Rattle.operation.specs.declared.operation.Operation.{Operation}

abbrev pub opcode : Operation → ℕ
-- the event must be present, absent
opcode Operation.Present = 1
opcode Operation.Absent = 2
-- a reading against the constant in the next word, against a reading
opcode Operation.AgainstConstant = 3
opcode Operation.AgainstReading = 4
-- propose the action; ends a rule
opcode Operation.Proposes = 5
-- the action must be in the set
opcode Operation.Member = 6
-- the constraint holds; ends it
opcode Operation.Never = 7
-- trigger the event, in forms from 3 on; ends a rule
opcode Operation.Triggers = 8
opcode Operation.Unknown = 0

-- in the order of their numbers; any other number stands for no operation
abbrev pub operations : List Operation
operations =
    Operation.Unknown ∷ Operation.Present ∷ Operation.Absent ∷ Operation.AgainstConstant ∷ Operation.AgainstReading
    ∷ Operation.Proposes ∷ Operation.Member ∷ Operation.Never ∷ Operation.Triggers ∷ []

unfoldable pub operation_from : ℕ → Operation
operation_from n = slice_index_or operations n Operation.Unknown

-- the numbers of the relations (docs/REFERENCE.md, "The image")
abbrev pub relation_code : Relation → ℕ
relation_code Relation.Equal = 0
relation_code Relation.NotEqual = 1
relation_code Relation.Less = 2
relation_code Relation.LessOrEqual = 3
relation_code Relation.Greater = 4
relation_code Relation.GreaterOrEqual = 5

-- in the order of their numbers; 6 and 7, which no taken image has, are read as >=
abbrev pub relations : List Relation
relations = Relation.Equal ∷ Relation.NotEqual ∷ Relation.Less ∷ Relation.LessOrEqual ∷ Relation.Greater ∷ []

unfoldable pub relation_from : ℕ → Relation
relation_from n = slice_index_or relations n Relation.GreaterOrEqual
