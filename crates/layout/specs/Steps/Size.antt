-- How many words the parts of a line take, as the code counts them before it writes. That these are the lengths of what is written
-- is proved (`condition_length` and `part_length` in proofs/LayoutLaws.antt).
use Rattle.std.specs.Prelude.{ℕ, ◌+◌, List, [], ◌∷◌}
use Rattle.policy.specs.declared.comparison.Comparison.{Comparison}
use Rattle.policy.specs.declared.comparison.Operand.{Operand}

-- a comparison with a constant takes two
abbrev pub operand_size : Operand → ℕ
operand_size (Operand.Constant k) = 2
operand_size (Operand.Reading r) = 1

unfoldable pub comparisons_size : List Comparison → ℕ
comparisons_size [] = 0
comparisons_size (c ∷ cs) = operand_size c.operand + comparisons_size cs

-- the comparisons and the ending
unfoldable pub condition_size : List Comparison → ℕ
condition_size cs = 1 + comparisons_size cs
