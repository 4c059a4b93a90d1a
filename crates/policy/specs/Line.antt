-- A line of a rule text, of either kind.
use Rattle.std.specs.Prelude.{ℕ, ◌+◌, List, [], ◌∷◌, map, length}
use Rattle.policy.specs.Policy.{Rule, Constraint, Policy}
use Rattle.policy.specs.declared.comparison.Comparison.{Comparison}
use Rattle.policy.specs.declared.comparison.Operand.{Operand}
use Rattle.policy.specs.declared.line.Ending.{Ending}
use Rattle.policy.specs.declared.line.Part.{Part}
use Rattle.policy.specs.declared.line.PerPart.{PerPart}
use Rattle.policy.specs.declared.line.Test.{Test}

pub data PolicyLine : Type 0 where
  rule : Rule → PolicyLine
  constraint : Constraint → PolicyLine

-- its literals or its actions
unfoldable pub heads_of : PolicyLine → List Test
heads_of (rule r) = map Test.Occurs r.literals
heads_of (constraint c) = map Test.Member c.actions

unfoldable pub comparisons_of : PolicyLine → List Comparison
comparisons_of (rule r) = r.comparisons
comparisons_of (constraint c) = c.comparisons

unfoldable pub ending_of : PolicyLine → Ending
ending_of (rule r) = Ending.Yields r.effect
ending_of (constraint c) = Ending.Never

-- 1 for a constant
abbrev pub operand_constants : Operand → ℕ
operand_constants (Operand.Constant k) = 1
operand_constants (Operand.Reading r) = 0

-- how many comparisons have a constant
unfoldable pub constant_count : List Comparison → ℕ
constant_count [] = 0
constant_count (c ∷ cs) = operand_constants c.operand + constant_count cs

-- the kind of a line that ends so
abbrev pub ending_part : Ending → Part
ending_part (Ending.Yields x) = Part.Rules
ending_part Ending.Never = Part.Constraints

abbrev pub line_part : PolicyLine → Part
line_part l = ending_part (ending_of l)

-- how many lines of a kind a policy has
abbrev pub line_count : Policy → Part → ℕ
line_count p Part.Rules = length p.rules
line_count p Part.Constraints = length p.constraints

module _ {A : Type 0} where
  -- what there is of one kind of line, and the same with another value for that kind
  abbrev pub part_get : PerPart A → Part → A
  part_get x Part.Rules = x.rules
  part_get x Part.Constraints = x.constraints

  abbrev pub part_set : PerPart A → Part → A → PerPart A
  part_set x Part.Rules value = record { rules = value; constraints = x.constraints }
  part_set x Part.Constraints value = record { rules = x.rules; constraints = value }
