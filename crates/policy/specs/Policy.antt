-- A policy: its rules and its constraints (never lines), each in text order.
use Rattle.std.specs.Prelude.{List}
use Rattle.policy.specs.declared.comparison.Comparison.{Comparison}
use Rattle.policy.specs.declared.comparison.Literal.{Literal}
use Rattle.policy.specs.declared.effect.Effect.{Effect}
use Rattle.policy.specs.declared.number.Action.{Action}

-- `E1 & !E2 causes A3 if R0 > 40 , R1 <= R2`, or `E1 triggers E60 if R0 > 5`
pub record Rule : Type 0 where
  pub literals : List Literal
  pub effect : Effect
  pub comparisons : List Comparison

-- `never A3 & A4 if R0 >= 0`
pub record Constraint : Type 0 where
  pub actions : List Action
  pub comparisons : List Comparison

pub record Policy : Type 0 where
  pub rules : List Rule
  pub constraints : List Constraint
