-- Examples of both modes that need no text, one row each.
use Rattle.std.specs.Prelude.{ℕ, zero, suc, Bool, true, false, not, if◌then◌else◌, ℤ, pos, List, [], ◌∷◌, map, fold, Option, None, Some}
use Rattle.policy.specs.declared.effect.Effect.{Effect}
use Rattle.policy.specs.declared.epoch.Epoch.{Epoch}
use Rattle.policy.specs.Policy.{Policy, Rule, Constraint}
use Rattle.policy.specs.Number.{set_limit}
use Rattle.policy.specs.Set.{ActionSet, has_action, EventSet, no_events, insert_event, actions_from, no_readings, set_of}
use Rattle.pdl.specs.Reduction.{kept_events, issued, withheld}
use Rattle.pdl.specs.Yield.{conflict, accepted, cancelled}
use Rattle.policy.specs.declared.comparison.Comparison.{Comparison}
use Rattle.policy.specs.declared.comparison.Operand.{Operand}
use Rattle.policy.specs.declared.comparison.Relation.{Relation}
use Rattle.policy.specs.declared.number.Action.{Action}

abbrev action : ℕ → Action
action n = record { 0 = n }

-- `E0 causes An`, for each n
abbrev proposing : List ℕ → List Rule
proposing = map (λ (n : ℕ). record { literals = record { event = record { 0 = 0 }; negated = false } ∷ []; effect = Effect.Causes (action n); comparisons = [] })

abbrev never : List ℕ → List Comparison → Constraint
never ns cs = record { actions = map action ns; comparisons = cs }

-- `R0 >= k`
abbrev at_least : ℤ → Comparison
at_least k = record { reading = record { 0 = 0 }; relation = Relation.GreaterOrEqual; operand = Operand.Constant k }

-- `E0 R0=k`
abbrev epoch_at : ℤ → Epoch
epoch_at k = record { events = set_of 1; readings = record { given = set_of 1; values = k ∷ [] } }

pub record Example : Type 0 where
  pub proposals : List ℕ
  pub constraints : List Constraint
  pub reading : ℤ
  pub accepted_actions : List ℕ
  pub cancelled_actions : List ℕ

unfoldable pub examples : List Example
examples =
    record { proposals = 1 ∷ 2 ∷ 3 ∷ []; constraints = never (1 ∷ 2 ∷ []) [] ∷ never (2 ∷ 3 ∷ []) [] ∷ []; reading = pos 0; accepted_actions = 1 ∷ 3 ∷ []; cancelled_actions = 2 ∷ [] }
    ∷ record { proposals = 1 ∷ 2 ∷ 3 ∷ []; constraints = never (1 ∷ 2 ∷ 3 ∷ []) [] ∷ []; reading = pos 0; accepted_actions = 1 ∷ 2 ∷ []; cancelled_actions = 3 ∷ [] }
    ∷ record { proposals = 5 ∷ []; constraints = never (5 ∷ []) [] ∷ []; reading = pos 0; accepted_actions = []; cancelled_actions = 5 ∷ [] }
    ∷ record { proposals = 1 ∷ 2 ∷ []; constraints = never (1 ∷ 2 ∷ []) (at_least (pos 100) ∷ []) ∷ []; reading = pos 99; accepted_actions = 1 ∷ 2 ∷ []; cancelled_actions = [] }
    ∷ record { proposals = 1 ∷ 2 ∷ []; constraints = never (1 ∷ 2 ∷ []) (at_least (pos 100) ∷ []) ∷ []; reading = pos 100; accepted_actions = 1 ∷ []; cancelled_actions = 2 ∷ [] }
    ∷ []

pub record Resolved : Type 0 where
  pub accepts : ActionSet
  pub cancels : ActionSet

unfoldable pub yielded : Example → Resolved
yielded x =
    let policy : Policy = record { rules = proposing x.proposals; constraints = x.constraints } in
    record { accepts = accepted policy (epoch_at x.reading); cancels = cancelled policy (epoch_at x.reading) }

unfoldable pub expected : Example → Resolved
expected x = record { accepts = actions_from x.accepted_actions; cancels = actions_from x.cancelled_actions }

-- ---- the accepted set against another set of proposed actions on which no constraint holds

pub record Choice : Type 0 where
  pub proposals : List ℕ
  pub constraints : List Constraint
  pub reading : ℤ
  pub other : List ℕ
  -- the lowest action in which the two differ
  pub lowest : ℕ

abbrev chain : List ℕ → ℕ → Choice
chain other lowest =
    record { proposals = 1 ∷ 2 ∷ 3 ∷ []; constraints = never (1 ∷ 2 ∷ []) [] ∷ never (2 ∷ 3 ∷ []) [] ∷ []; reading = pos 0; other = other; lowest = lowest }

abbrev from_100 : ℤ → List ℕ → ℕ → Choice
from_100 reading other lowest =
    record { proposals = 1 ∷ 2 ∷ []; constraints = never (1 ∷ 2 ∷ []) (at_least (pos 100) ∷ []) ∷ []; reading = reading; other = other; lowest = lowest }

unfoldable pub choices : List Choice
choices =
    -- A1 with A3 is accepted; the others are none, A1, A2 and A3
    chain [] 1 ∷ chain (1 ∷ []) 3 ∷ chain (2 ∷ []) 1 ∷ chain (3 ∷ []) 1
    -- under its bound the constraint doesn't hold, and both are accepted; at its bound A1 is
    ∷ from_100 (pos 99) [] 1 ∷ from_100 (pos 99) (1 ∷ []) 2 ∷ from_100 (pos 99) (2 ∷ []) 1
    ∷ from_100 (pos 100) [] 1 ∷ from_100 (pos 100) (2 ∷ []) 1
    ∷ []

abbrev differ : Bool → Bool → Bool
differ one other = if one then not other else other

-- the lowest of so many actions, from the n-th on, in which two sets differ
unfoldable pub lowest_from : ActionSet → ActionSet → ℕ → ℕ → Option ℕ
lowest_from s t n zero = None
lowest_from s t n (suc more) = if differ (has_action s (action n)) (has_action t (action n)) then Some n else lowest_from s t (suc n) more

pub record Compared : Type 0 where
  pub is_free : Bool
  pub lowest_action : Option ℕ
  pub is_accepted : Bool

unfoldable pub compared : Choice → Compared
compared x =
    let policy : Policy = record { rules = proposing x.proposals; constraints = x.constraints } in
    let other : ActionSet = actions_from x.other in
    record {
      is_free = not (conflict x.constraints (epoch_at x.reading).readings other);
      lowest_action = lowest_from (accepted policy (epoch_at x.reading)) other 0 set_limit;
      is_accepted = has_action (accepted policy (epoch_at x.reading)) (action x.lowest);
    }

unfoldable pub expected_choice : Choice → Compared
expected_choice x = record { is_free = true; lowest_action = Some x.lowest; is_accepted = true }

-- ---- event cancellation

abbrev whenever : ℕ → ℕ → Rule
whenever event n = record { literals = record { event = record { 0 = event }; negated = false } ∷ []; effect = Effect.Causes (action n); comparisons = [] }

abbrev unless : ℕ → ℕ → Rule
unless event n = record { literals = record { event = record { 0 = event }; negated = true } ∷ []; effect = Effect.Causes (action n); comparisons = [] }

pub record Reduction : Type 0 where
  pub rules : List Rule
  pub constraints : List Constraint
  pub events : List ℕ
  pub kept_numbers : List ℕ
  pub issued_actions : List ℕ
  pub withheld_actions : List ℕ

-- E0 a defective product, E1 an order, E2 a service call; A0 stop, A1 mail the product, A2 charge the card
abbrev orders : List Rule
orders = whenever 0 0 ∷ whenever 1 1 ∷ whenever 1 2 ∷ []

unfoldable pub reductions : List Reduction
reductions =
    -- Example 2 of Chomicki, Lobo and Naqvi, "Conflict Resolution Using Logic Programming" (TKDE 2003): the order is dropped whole
    record { rules = orders; constraints = never (0 ∷ 1 ∷ []) [] ∷ []; events = 0 ∷ 1 ∷ []; kept_numbers = 0 ∷ []; issued_actions = 0 ∷ []; withheld_actions = 1 ∷ 2 ∷ [] }
    -- an order alone
    ∷ record { rules = orders; constraints = never (0 ∷ 1 ∷ []) [] ∷ []; events = 1 ∷ []; kept_numbers = 1 ∷ []; issued_actions = 1 ∷ 2 ∷ []; withheld_actions = [] }
    -- the service call is charged, though the order is dropped
    ∷ record { rules = whenever 2 2 ∷ orders; constraints = never (0 ∷ 1 ∷ []) [] ∷ []; events = 0 ∷ 1 ∷ 2 ∷ []; kept_numbers = 0 ∷ 2 ∷ []; issued_actions = 0 ∷ 2 ∷ []; withheld_actions = 1 ∷ [] }
    -- a dropped event is not absent: A3 is not issued
    ∷ record { rules = unless 1 3 ∷ orders; constraints = never (0 ∷ 1 ∷ []) [] ∷ []; events = 0 ∷ 1 ∷ []; kept_numbers = 0 ∷ []; issued_actions = 0 ∷ []; withheld_actions = 1 ∷ 2 ∷ [] }
    ∷ []

pub record Reduced : Type 0 where
  pub keeps : EventSet
  pub issues : ActionSet
  pub withholds : ActionSet

abbrev pub events_from : List ℕ → EventSet
events_from ns = fold insert_event no_events (map (λ (n : ℕ). record { 0 = n }) ns)

unfoldable pub reduced_of : Reduction → Reduced
reduced_of x =
    let policy : Policy = record { rules = x.rules; constraints = x.constraints } in
    let e : Epoch = record { events = events_from x.events; readings = record { given = no_readings; values = [] } } in
    record { keeps = kept_events policy e; issues = issued policy e; withholds = withheld policy e }

unfoldable pub expected_reduced : Reduction → Reduced
expected_reduced x =
    record {
      keeps = events_from x.kept_numbers;
      issues = actions_from x.issued_actions;
      withholds = actions_from x.withheld_actions;
    }
