-- The words of the parts of a line, and what a word stands for. Packing and unpacking stand side by side;
-- that each undoes the other is proved (proofs/PartsLaws.antt).
use Rattle.std.specs.Prelude.{ℕ, List, [], ◌∷◌, if◌then◌else◌}
use Rattle.std.specs.Int.{w32, cast_signed, cast_unsigned}
use Rattle.policy.specs.Effect.{effect_number}
use Rattle.policy.specs.Limits.{test_number}
use Rattle.policy.specs.declared.comparison.Comparison.{Comparison}
use Rattle.policy.specs.declared.comparison.Operand.{Operand}
use Rattle.policy.specs.declared.effect.Effect.{Effect}
use Rattle.policy.specs.declared.line.Ending.{Ending}
use Rattle.policy.specs.declared.line.Test.{Test}
use Rattle.policy.specs.declared.number.Action.{Action}
use Rattle.policy.specs.declared.number.Event.{Event}
use Rattle.operation.specs.Operation.{relation_code, relation_from}
use Rattle.operation.specs.Fields.{pack, first_of, second_of, relation_code_of}
use Rattle.operation.specs.declared.operation.Operation.{Operation}

-- ---- heads

-- the event present or absent, the action in the set
unfoldable pub test_operation : Test → Operation
test_operation (Test.Occurs l) = if l.negated then Operation.Absent else Operation.Present
test_operation (Test.Member a) = Operation.Member

-- the skip of a word is the number of words that follow it in its line
unfoldable pub test_word : Test → ℕ → ℕ
test_word t skip = pack (test_operation t) (test_number t) 0 0 skip

abbrev pub event_from : ℕ → Event
event_from w = record { 0 = first_of w }

abbrev pub action_from : ℕ → Action
action_from w = record { 0 = first_of w }

-- ---- comparisons

-- the first word of a comparison: the reading, the relation's number and the operand
unfoldable pub operand_word : ℕ → ℕ → Operand → ℕ → ℕ
operand_word reading relation (Operand.Constant k) skip = pack Operation.AgainstConstant reading 0 relation skip
operand_word reading relation (Operand.Reading r) skip = pack Operation.AgainstReading reading r.0 relation skip

-- the word behind it: a constant in two's complement
unfoldable pub constant_words : Operand → List ℕ
constant_words (Operand.Constant k) = cast_unsigned w32 k ∷ []
constant_words (Operand.Reading r) = []

unfoldable pub comparison_word : Comparison → ℕ → ℕ
comparison_word c skip = operand_word c.reading.0 (relation_code c.relation) c.operand skip

-- the skip does not count the comparison's own constant word
unfoldable pub comparison_words : Comparison → ℕ → List ℕ
comparison_words c skip = comparison_word c skip ∷ constant_words c.operand

-- a comparison with a constant, from its word and the constant word
unfoldable pub constant_comparison : ℕ → ℕ → Comparison
constant_comparison w k = record { reading = record { 0 = first_of w }; relation = relation_from (relation_code_of w); operand = Operand.Constant (cast_signed w32 k) }

-- a comparison with a reading
unfoldable pub reading_comparison : ℕ → Comparison
reading_comparison w = record { reading = record { 0 = first_of w }; relation = relation_from (relation_code_of w); operand = Operand.Reading (record { 0 = second_of w }) }

-- ---- endings

-- propose the action, trigger the event
unfoldable pub effect_operation : Effect → Operation
effect_operation (Effect.Causes a) = Operation.Proposes
effect_operation (Effect.Triggers e) = Operation.Triggers

unfoldable pub ending_word : Ending → ℕ
ending_word (Ending.Yields x) = pack (effect_operation x) (effect_number x) 0 0 0
ending_word Ending.Never = pack Operation.Never 0 0 0 0
