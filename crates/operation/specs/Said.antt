-- What a word says: one table of the operations, by which words are run, told apart and read. A new operation that says a head, a
-- comparison or an ending has a clause here; what goes by the parts of a line need not name it.
use Rattle.std.specs.Prelude.{ℕ, true, false, Option, Some, None}
use Rattle.policy.specs.Line.{operand_constants}
use Rattle.policy.specs.declared.effect.Effect.{Effect}
use Rattle.policy.specs.declared.line.Ending.{Ending}
use Rattle.policy.specs.declared.line.Test.{Test}
use Rattle.operation.specs.Fields.{operation_of}
use Rattle.operation.specs.Parts.{event_from, action_from, constant_comparison, reading_comparison}
use Rattle.operation.specs.declared.operation.Operation.{Operation}
use Rattle.operation.specs.declared.said.LinePart.{LinePart}

-- the word w, by its operation, with the word k behind it
unfoldable pub says_by : Operation → ℕ → ℕ → LinePart
says_by Operation.Present w k = LinePart.Head (Test.Occurs (record { event = event_from w; negated = false }))
says_by Operation.Absent w k = LinePart.Head (Test.Occurs (record { event = event_from w; negated = true }))
says_by Operation.Member w k = LinePart.Head (Test.Member (action_from w))
says_by Operation.AgainstConstant w k = LinePart.Comparison (constant_comparison w k)
says_by Operation.AgainstReading w k = LinePart.Comparison (reading_comparison w)
says_by Operation.Proposes w k = LinePart.Ending (Ending.Yields (Effect.Causes (action_from w)))
says_by Operation.Triggers w k = LinePart.Ending (Ending.Yields (Effect.Triggers (event_from w)))
says_by Operation.Never w k = LinePart.Ending Ending.Never
says_by _ w k = LinePart.Nothing

unfoldable pub says : ℕ → ℕ → LinePart
says w k = says_by (operation_of w) w k

-- how many constants follow the word: one behind a comparison with a constant
unfoldable pub constants_of : LinePart → ℕ
constants_of (LinePart.Comparison c) = operand_constants c.operand
constants_of _ = 0

-- the effect that a word ends a rule with
unfoldable pub effect_said : LinePart → Option Effect
effect_said (LinePart.Ending (Ending.Yields x)) = Some x
effect_said _ = None
