-- What the functions answer for the test of a word, and where a trial is left.
use Rattle.std.specs.Prelude.{ℕ, ◌+◌, ◌-◌, Bool, true, false, List, length, ◌≡◌, nat_lt, if◌then◌else◌, slice_index_or}
use Rattle.policy.specs.declared.epoch.Readings.{Readings}
use Rattle.policy.specs.Set.{ActionSet}
use Rattle.policy.specs.declared.effect.Effects.{Effects}
use Rattle.policy.specs.declared.set.Events.{Events}
use Rattle.operation.specs.Said.{says, constants_of}
use Rattle.operation.specs.Whole.{ends_line}
use Rattle.policy.specs.declared.line.Part.{Part}
use Rattle.operation.specs.declared.said.LinePart.{LinePart}
use Rattle.run.specs.Run.{rule_test, taking, constraint_test, ends_constraint}
use Rattle.run.specs.declared.constraints.Trial.{Trial}
use Rattle.run.specs.declared.test.Tested.{Tested}

-- the outcome of the test of a word, by what it says; it stands before the index `behind`
abbrev pub tested : Bool → LinePart → ℕ → Tested
tested holds said behind = record { holds = holds; next = behind + constants_of said }

-- the test of a word that asks for one, and so yields no effect
pub record IsTestIn (ev : Events) (rs : Readings) (said : LinePart) (behind : ℕ) (t : Tested) : Type 0 where
  pub yields_none : (s : Effects) → taking s said ≡ s
  pub goes_on : ends_line Part.Rules said ≡ false
  pub is : t ≡ tested (rule_test ev rs said) said behind

-- a word that asks for no test, and has no constant
pub record AsksNothing (ev : Events) (rs : Readings) (said : LinePart) : Type 0 where
  pub holds : rule_test ev rs said ≡ true
  pub alone : constants_of said ≡ 0

-- the test of a word that ends no constraint
pub record IsTestOf (rs : Readings) (s : ActionSet) (said : LinePart) (behind : ℕ) (t : Tested) : Type 0 where
  pub goes_on : ends_constraint said ≡ false
  pub is : t ≡ tested (constraint_test rs s said) said behind

-- what the word at an index says
abbrev pub said_at : List ℕ → ℕ → LinePart
said_at ws at = says (slice_index_or ws at 0) (slice_index_or ws (at + 1) 0)

-- the answer of a trial that was left at a word, before which as many words were fetched as lie between `from` and it
unfoldable pub left_at : List ℕ → ℕ → ℕ → Trial
left_at ws at from =
    if nat_lt at (length ws) then record { conflict = ends_constraint (said_at ws at); words = at + (1 + constants_of (said_at ws at)) - from }
    else record { conflict = false; words = at - from }
