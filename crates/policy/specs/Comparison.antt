-- When a relation holds between two numbers, and when a comparison holds on the readings of an epoch.
use Rattle.std.specs.Prelude.{Bool, true, false, not, ◌&&◌, ◌≡◌, ℤ, Option, Some, List, [], ◌∷◌, Contains}
use Rattle.std.specs.Int.Signed.{lt_z, le_z}
use Rattle.policy.specs.Epoch.{reading_value}
use Rattle.policy.specs.declared.epoch.Readings.{Readings}
use Rattle.policy.specs.Set.{has_reading}
use Rattle.policy.specs.declared.comparison.Comparison.{Comparison}
use Rattle.policy.specs.declared.comparison.Operand.{Operand}
use Rattle.policy.specs.declared.comparison.Relation.{Relation}
use Rattle.policy.specs.declared.comparison.Relation.TheVariants.{Equal, NotEqual, Less, LessOrEqual, Greater, GreaterOrEqual}
use Rattle.policy.specs.declared.line.Part.{Part}
use Rattle.policy.specs.declared.number.Reading.{Reading}

unfoldable pub eq_z : ℤ → ℤ → Bool
eq_z a b = le_z a b && le_z b a

unfoldable pub relation_holds : Relation → ℤ → ℤ → Bool
relation_holds Equal a b = eq_z a b
relation_holds NotEqual a b = not (eq_z a b)
relation_holds Less a b = lt_z a b
relation_holds LessOrEqual a b = le_z a b
relation_holds Greater a b = lt_z b a
relation_holds GreaterOrEqual a b = le_z b a

-- the readings that a comparison names, on either side
unfoldable pub operand_readings : Operand → List Reading
operand_readings (Operand.Constant k) = []
operand_readings (Operand.Reading r) = r ∷ []

unfoldable pub readings_of : Comparison → List Reading
readings_of c = c.reading ∷ operand_readings c.operand

-- it names a reading which the epoch does not give
pub record NamesMissing (rs : Readings) (c : Comparison) : Type 0 where
  pub which : Reading
  pub named : Contains (readings_of c) which
  pub missing : has_reading rs.given which ≡ false

-- what such a comparison counts as: it does not hold in a rule and does hold in a constraint, so that a dead sensor permits nothing
unfoldable pub missing_holds : Part → Bool
missing_holds Part.Rules = false
missing_holds Part.Constraints = true

-- the relation of two values, or `missing` where there are not two
unfoldable pub values_relate : Bool → Relation → Option ℤ → Option ℤ → Bool
values_relate missing relation (Some a) (Some b) = relation_holds relation a b
values_relate missing _ _ _ = missing

-- a constant, or the value of another reading
unfoldable pub operand_value : Readings → Operand → Option ℤ
operand_value rs (Operand.Constant k) = Some k
operand_value rs (Operand.Reading r) = reading_value rs r

-- a comparison of a rule, or of a constraint, on the readings of an epoch
unfoldable pub comparison_holds : Part → Readings → Comparison → Bool
comparison_holds part rs c = values_relate (missing_holds part) c.relation (reading_value rs c.reading) (operand_value rs c.operand)
