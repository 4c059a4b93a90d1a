-- What a comparison counts as that names a missing reading; where none is missing, the values alone count.
use Rattle.std.proofs.Common.{Bool, true, false, List, ◌⊎◌, ◌≡◌, ℤ, Option, Some, None, slice_get, arith}
use Rattle.policy.proofs.ListLaws.{contains_cases, contains_one}
use Rattle.policy.specs.Comparison.{relation_holds, operand_readings, readings_of, NamesMissing, missing_holds, values_relate, operand_value, comparison_holds}
use Rattle.policy.specs.Epoch.{reading_value, SomeOf}
use Rattle.policy.specs.declared.epoch.Readings.{Readings}
use Rattle.policy.specs.Set.{ReadingSet, has_reading}
use Rattle.policy.specs.declared.comparison.Comparison.{Comparison}
use Rattle.policy.specs.declared.comparison.Relation.{Relation}
use Rattle.policy.specs.declared.line.Part.{Part}
use Rattle.policy.specs.declared.number.Reading.{Reading}

-- ---- a reading that is not given

value_missing : (rs : Readings) (r : Reading) → has_reading rs.given r ≡ false → reading_value rs r ≡ None
unfolding reading_value
value_missing rs r h = grind arith

-- ---- comparisons

-- a missing value on the right
relate_missing : (missing : Bool) (relation : Relation) (left : Option ℤ) → values_relate missing relation left None ≡ missing
unfolding values_relate
relate_missing missing relation left = grind arith

module _ (rs : Readings) (c : Comparison) where
  module _ (part : Part) where
    -- by the relation and the values alone, in a line of either kind
    pub given_counts : (left right : ℤ) → reading_value rs c.reading ≡ Some left → operand_value rs c.operand ≡ Some right
        → comparison_holds part rs c ≡ relation_holds c.relation left right
    unfolding comparison_holds values_relate
    given_counts left right h k = grind arith

    pub left_missing : reading_value rs c.reading ≡ None → comparison_holds part rs c ≡ missing_holds part
    unfolding comparison_holds values_relate
    left_missing h = grind arith

    pub right_missing : operand_value rs c.operand ≡ None → comparison_holds part rs c ≡ missing_holds part
    unfolding comparison_holds
    right_missing h = grind (arith, relate_missing)

    -- a missing reading on either side
    missing_counts : NamesMissing rs c → comparison_holds part rs c ≡ missing_holds part
    unfolding readings_of operand_readings operand_value
    missing_counts m = grind (arith, contains_cases, contains_one, left_missing, right_missing, value_missing)

  pub missing_in_rule : NamesMissing rs c → comparison_holds Part.Rules rs c ≡ false
  unfolding missing_holds
  missing_in_rule = grind (arith, missing_counts)

  pub missing_in_constraint : NamesMissing rs c → comparison_holds Part.Constraints rs c ≡ true
  unfolding missing_holds
  missing_in_constraint = grind (arith, missing_counts)

-- what stands in the place of a reading that is not given does not count
module _ (given : ReadingSet) (vs ws : List ℤ) (same : (r : Reading) → has_reading given r ≡ true → slice_get vs r.0 ≡ slice_get ws r.0) where
  same_value : (r : Reading) → reading_value (record { given = given; values = vs }) r ≡ reading_value (record { given = given; values = ws }) r
  unfolding reading_value
  same_value r = grind arith

  pub ungiven_free : (part : Part) (c : Comparison) → comparison_holds part (record { given = given; values = vs }) c ≡ comparison_holds part (record { given = given; values = ws }) c
  unfolding comparison_holds operand_value
  ungiven_free part c = grind (arith, same_value)

-- ---- fewer readings

module _ (fewer all : Readings) (some_of : SomeOf fewer all) where
  fewer_counts : (part : Part) (c : Comparison) → (comparison_holds part fewer c ≡ missing_holds part) ⊎ (comparison_holds part fewer c ≡ comparison_holds part all c)
  unfolding comparison_holds operand_value
  fewer_counts part c = grind (arith, left_missing, right_missing, some_of c.reading)

  -- with fewer readings no more comparisons of rules hold, and no fewer of constraints
  pub fewer_in_rule : (c : Comparison) → comparison_holds Part.Rules fewer c ≡ true → comparison_holds Part.Rules all c ≡ true
  unfolding missing_holds
  fewer_in_rule c h = grind (arith, fewer_counts)

  pub fewer_in_constraint : (c : Comparison) → comparison_holds Part.Constraints all c ≡ true → comparison_holds Part.Constraints fewer c ≡ true
  unfolding missing_holds
  fewer_in_constraint c h = grind (arith, fewer_counts)
