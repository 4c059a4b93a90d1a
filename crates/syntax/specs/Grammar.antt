-- The two shapes of a line, over its tokens. Numbers of any size and lists of any length have
-- the right shape; ranges and counts are tested afterwards.
use Rattle.std.specs.Prelude.{List, [], ◌∷◌, Option, Some, None, option_map, option_and_then, if◌then◌else◌}
use Rattle.policy.specs.Line.{PolicyLine, rule, constraint}
use Rattle.policy.specs.declared.comparison.Comparison.{Comparison}
use Rattle.policy.specs.declared.comparison.Literal.{Literal}
use Rattle.policy.specs.declared.effect.Effect.{Effect}
use Rattle.policy.specs.declared.number.Action.{Action}
use Rattle.lexer.specs.Byte.{is}
use Rattle.lexer.specs.Token.{Token, literal_of, action_of, event_of, both, comparison_of}

-- ---- the condition: `if` with one or more comparisons joined by `,`, or nothing

abbrev single : Comparison → List Comparison
single c = c ∷ []

unfoldable pub comparisons_from : List Token → Option (List Comparison)
comparisons_from (r ∷ relation ∷ o ∷ []) = option_map single (comparison_of r relation o)
comparisons_from (r ∷ relation ∷ o ∷ t ∷ ts) = if is "," t then both ◌∷◌ (comparison_of r relation o) (comparisons_from ts) else None
comparisons_from _ = None

unfoldable pub condition_from : List Token → Option (List Comparison)
condition_from [] = Some []
condition_from (t ∷ ts) = if is "if" t then comparisons_from ts else None

-- ---- one or more items joined by `&`, and the tokens behind them

pub record Joined (A : Type 0) : Type 0 where
  pub items : List A
  pub rest : List Token

module _ {A : Type 0} where
  abbrev pub last : List Token → A → Joined A
  last rest x = record { items = x ∷ []; rest = rest }

  abbrev pub before : A → Joined A → Joined A
  before x j = record { items = x ∷ j.items; rest = j.rest }

module _ {A : Type 0} (item : Token → Option A) where
  unfoldable pub joined : List Token → Option (Joined A)
  joined [] = None
  joined (t ∷ []) = option_map (last []) (item t)
  joined (t ∷ s ∷ ts) = if is "&" s then both before (item t) (joined ts) else option_map (last (s ∷ ts)) (item t)

-- ---- the two shapes

-- `causes` and an action, or `triggers` and an event
unfoldable pub effect_from : Token → Token → Option Effect
effect_from keyword t =
    if is "causes" keyword then option_map Effect.Causes (action_of t) else (if is "triggers" keyword then option_map Effect.Triggers (event_of t) else None)

abbrev pub yields : List Literal → Effect → List Comparison → PolicyLine
yields literals effect comparisons = rule (record { literals = literals; effect = effect; comparisons = comparisons })

-- what follows the literals of a rule
unfoldable pub rule_after : List Literal → List Token → Option PolicyLine
rule_after literals (keyword ∷ t ∷ ts) = both (yields literals) (effect_from keyword t) (condition_from ts)
rule_after _ _ = None

abbrev pub never : List Action → List Comparison → PolicyLine
never actions comparisons = constraint (record { actions = actions; comparisons = comparisons })

unfoldable pub constraint_after : List Action → List Token → Option PolicyLine
constraint_after actions ts = option_map (never actions) (condition_from ts)

module _ {A : Type 0} where
  unfoldable pub after : (List A → List Token → Option PolicyLine) → Option (Joined A) → Option PolicyLine
  after f o = option_and_then (λ (j : Joined A). f j.items j.rest) o

unfoldable pub line_from : List Token → Option PolicyLine
line_from [] = None
line_from (t ∷ ts) = if is "never" t then after constraint_after (joined action_of ts) else after rule_after (joined literal_of (t ∷ ts))
