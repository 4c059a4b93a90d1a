-- The line that heads, comparisons and an ending are.
use Rattle.std.specs.Prelude.{Bool, true, false, List, [], ◌∷◌}
use Rattle.policy.specs.Line.{PolicyLine, rule, constraint}
use Rattle.policy.specs.declared.comparison.Comparison.{Comparison}
use Rattle.policy.specs.declared.comparison.Literal.{Literal}
use Rattle.policy.specs.declared.line.Ending.{Ending}
use Rattle.policy.specs.declared.line.Part.{Part}
use Rattle.policy.specs.declared.line.Test.{Test}
use Rattle.policy.specs.declared.number.Action.{Action}

-- whether a head may stand in a line of the kind: a literal in a rule, an action in a constraint
unfoldable pub fits : Part → Test → Bool
fits Part.Rules (Test.Occurs l) = true
fits Part.Constraints (Test.Member a) = true
fits _ _ = false

-- the literals among heads, and the actions
unfoldable pub literals_among : List Test → List Literal
literals_among [] = []
literals_among (Test.Occurs l ∷ ts) = l ∷ literals_among ts
literals_among (Test.Member a ∷ ts) = literals_among ts

unfoldable pub actions_among : List Test → List Action
actions_among [] = []
actions_among (Test.Occurs l ∷ ts) = actions_among ts
actions_among (Test.Member a ∷ ts) = a ∷ actions_among ts

-- the line that ends so. Of its heads those count that fit it.
unfoldable pub line_of : List Test → List Comparison → Ending → PolicyLine
line_of ts cs (Ending.Yields x) = rule (record { literals = literals_among ts; effect = x; comparisons = cs })
line_of ts cs Ending.Never = constraint (record { actions = actions_among ts; comparisons = cs })
