-- What words do when they are run, by what they say and by their skips, and how many are fetched. Any words can be run.
use Rattle.std.specs.Prelude.{ℕ, zero, suc, ◌+◌, Bool, true, false, not, List, [], ◌∷◌, fold, if◌then◌else◌, slice_index_or}
use Rattle.policy.specs.Comparison.{comparison_holds}
use Rattle.policy.specs.declared.epoch.Readings.{Readings}
use Rattle.std.specs.List.{list_any}
use Rattle.policy.specs.Effect.{no_effects, with_effect}
use Rattle.policy.specs.Set.{ActionSet, EventSet, has_event, has_action}
use Rattle.policy.specs.declared.effect.Effects.{Effects}
use Rattle.policy.specs.declared.line.Ending.{Ending}
use Rattle.policy.specs.declared.line.Part.{Part}
use Rattle.policy.specs.declared.line.Test.{Test}
use Rattle.policy.specs.declared.set.Events.{Events}
use Rattle.operation.specs.Fields.{skip_of}
use Rattle.operation.specs.Said.{says, constants_of}
use Rattle.operation.specs.declared.said.LinePart.{LinePart}

-- ---- which words are run

-- how many of the words behind a word are passed over: its constant always, and where its test fails as many more as its skip tells
abbrev pub passes : Bool → LinePart → ℕ → ℕ
passes holds said w = constants_of said + (if holds then 0 else skip_of w)

-- what the words say that are run, one after another, with the number of words still to pass over and a test of what a word says
module _ (test : LinePart → Bool) where
  unfoldable pub ran : ℕ → List ℕ → List LinePart
  ran n [] = []
  ran (suc n) (w ∷ ws) = ran n ws
  ran zero (w ∷ ws) =
      let said : LinePart = says w (slice_index_or ws 0 0) in
      said ∷ ran (passes (test said) said w) ws

-- ---- tests

-- in the rule part: an event present or absent, or a comparison. Any other word asks for no test
unfoldable pub rule_test : Events → Readings → LinePart → Bool
rule_test ev rs (LinePart.Head (Test.Occurs l)) = if l.negated then not (has_event ev.occurred l.event) else has_event ev.present l.event
rule_test ev rs (LinePart.Comparison c) = comparison_holds Part.Rules rs c
rule_test _ _ _ = true

-- in the constraint part: an action in the set, or a comparison
unfoldable pub constraint_test : Readings → ActionSet → LinePart → Bool
constraint_test rs s (LinePart.Head (Test.Member a)) = has_action s a
constraint_test rs s (LinePart.Comparison c) = comparison_holds Part.Constraints rs c
constraint_test _ _ _ = true

-- ---- what the run of a part yields

unfoldable pub taking : Effects → LinePart → Effects
taking s (LinePart.Ending (Ending.Yields x)) = with_effect s x
taking s _ = s

-- the effects of the words that are run: the actions that they propose, and the events that they trigger
unfoldable pub run_rules : Events → Readings → List ℕ → Effects
run_rules ev rs ws = fold taking no_effects (ran (rule_test ev rs) 0 ws)

-- the events that words trigger where each test holds
unfoldable pub reserved_by : List ℕ → EventSet
reserved_by ws = (fold taking no_effects (ran (λ (said : LinePart). true) 0 ws)).events

unfoldable pub ends_constraint : LinePart → Bool
ends_constraint (LinePart.Ending Ending.Never) = true
ends_constraint _ = false

-- whether the end of some constraint is run
unfoldable pub run_constraints : Readings → ActionSet → List ℕ → Bool
run_constraints rs s ws = list_any ends_constraint (ran (constraint_test rs s) 0 ws)

-- ---- how many words are fetched

-- a word that is run is fetched, and its constant with it
unfoldable pub fetches : List LinePart → ℕ
fetches [] = 0
fetches (said ∷ rest) = 1 + constants_of said + fetches rest

-- the items of a list up to the first that passes a test, that one included
unfoldable pub up_to : (LinePart → Bool) → List LinePart → List LinePart
up_to test [] = []
up_to test (said ∷ rest) = said ∷ (if test said then [] else up_to test rest)

-- how many words the run of rules fetches
unfoldable pub rule_fetches : Events → Readings → List ℕ → ℕ
rule_fetches ev rs ws = fetches (ran (rule_test ev rs) 0 ws)

-- how many words the trial of a set fetches: none behind the constraint that holds
unfoldable pub trial_fetches : Readings → ActionSet → List ℕ → ℕ
trial_fetches rs s ws = fetches (up_to ends_constraint (ran (constraint_test rs s) 0 ws))
