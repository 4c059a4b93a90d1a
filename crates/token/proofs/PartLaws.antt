-- Laws of reading the parts of a line: clipped numbers against the limits, operands, and comparisons by their parts.
use Rattle.std.proofs.Common.{ℕ, Bool, List, ◌≡◌, arith, ℤ, Some, None, option_map, option_and_then, Option}
use Rattle.policy.specs.Limits.{operand_in_range, comparison_in_range}
use Rattle.policy.specs.Number.{check_reading}
use Rattle.policy.specs.declared.comparison.Operand.{Operand}
use Rattle.policy.specs.declared.comparison.Relation.{Relation}
use Rattle.lexer.specs.Token.{reading_of, operand_of, comparison_of}
use Rattle.lexer.specs.Steps.Scan.{without_spaces, name_in, reading_in}
use Rattle.token.specs.Steps.PartIn.{kept, kept_before, constant_in, relation_in, operand_in, compared_with, compared, comparison_in}

-- ---- what the answers say of the token

module _ {A : Type 0} (ok : A → Bool) where
  pub part_none : (rest : List ℕ) (o : Option A) → option_map (kept_before ok rest) o ≡ None → o ≡ None
  part_none rest o h = grind arith

pub record Parted (A : Type 0) (ok : A → Bool) (rest : List ℕ) (o : Option A) (m : Option A) (k : List ℕ) : Type 0 where
  pub part : A
  pub is : o ≡ Some part
  pub made : m ≡ kept ok part
  pub behind : k ≡ rest

-- ---- operands

-- a reading, or else a constant
abbrev pub operand_from : Option (Option ℤ × List ℕ) → Option (ℕ × List ℕ) → Option (Option Operand × List ℕ)
operand_from constant None = option_map (λ (r : Option ℤ × List ℕ). (option_map Operand.Constant r.0, r.1)) constant
operand_from constant (Some r) = Some (option_map Operand.Reading (check_reading r.0), r.1)

pub operand_by_form : (text : List ℕ) → operand_in text ≡ operand_from (constant_in text) (reading_in text)
unfolding operand_in operand_of reading_of operand_in_range name_in constant_in
operand_by_form text = grind arith

-- ---- comparisons

-- a comparison by its reading, its relation and its operand
pub comparison_by_parts : (text : List ℕ) →
    comparison_in text
    ≡ option_and_then (λ (n : ℕ × List ℕ). option_and_then (λ (r : Relation × List ℕ). option_map (λ (o : Option Operand × List ℕ). (compared n.0 r.0 o.0, o.1)) (operand_in (without_spaces r.1))) (relation_in (without_spaces n.1))) (reading_in text)
unfolding comparison_in comparison_of reading_of relation_in operand_in name_in compared_with comparison_in_range
comparison_by_parts text = grind arith
