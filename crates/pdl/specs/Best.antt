-- Sets of actions compared by the lowest action in which they differ: lower numbers are the more important ones.
use Rattle.std.specs.Prelude.{List, true, ◌<◌, ◌≡◌}
use Rattle.policy.specs.declared.epoch.Readings.{Readings}
use Rattle.policy.specs.Policy.{Constraint}
use Rattle.policy.specs.Set.{ActionSet, has_action}
use Rattle.policy.specs.declared.number.Action.{Action}
use Rattle.pdl.specs.Pdl.{Satisfies, ◌⊆◌}

-- a is the lowest action in which the two sets differ
pub record LowestDifference (s t : ActionSet) (a : Action) : Type 0 where
  pub differs : ¬ (has_action s a ≡ has_action t a)
  pub lower : (b : Action) → b.0 < a.0 → has_action s b ≡ has_action t b

-- the two sets differ, and the lowest action in which they do is in the first
pub record Precedes (s t : ActionSet) : Type 0 where
  pub action : Action
  pub lowest : LowestDifference s t action
  pub holds : has_action s action ≡ true

-- a subset of t that satisfies the constraints and precedes every other such subset
pub record BestIn (constraints : List Constraint) (rs : Readings) (t s : ActionSet) : Type 0 where
  pub within : s ⊆ t
  pub satisfies : Satisfies constraints rs s
  pub best : (u : ActionSet) → u ⊆ t → Satisfies constraints rs u → ¬ (u ≡ s) → Precedes s u
