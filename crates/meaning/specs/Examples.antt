-- What the words of the worked example of `exactness` do on four epochs, one row each.
use Rattle.std.specs.Prelude.{ℕ, Bool, true, false, List, [], ◌∷◌, ℤ, pos}
use Rattle.policy.specs.declared.epoch.Epoch.{Epoch}
use Rattle.policy.specs.Set.{ActionSet, all_events, set_of}
use Rattle.exactness.specs.Examples.{worked}
use Rattle.layout.specs.Layout.{rule_part_words, constraint_part_words}
use Rattle.run.specs.Run.{run_rules, run_constraints}

-- events as a set, and the value of R0
pub record Run : Type 0 where
  pub events : ℕ
  pub reading : ℤ
  pub proposed : ℕ
  pub conflict : Bool

abbrev run_epoch : Run → Epoch
run_epoch x = record { events = set_of x.events; readings = record { given = set_of 1; values = x.reading ∷ [] } }

-- `E1 E3 R0=41` proposes A3 and A4, on which the constraint holds; the others propose A4 or nothing
unfoldable pub runs : List Run
runs =
    record { events = 10; reading = pos 41; proposed = 24; conflict = true } ∷ record { events = 10; reading = pos 40; proposed = 16; conflict = false }
    ∷ record { events = 14; reading = pos 41; proposed = 16; conflict = false } ∷ record { events = 0; reading = pos 0; proposed = 0; conflict = false } ∷ []

abbrev proposed_on : Epoch → ActionSet
proposed_on e = (run_rules (all_events e.events) e.readings (rule_part_words worked)).actions

unfoldable pub computed : Run → Run
computed x =
    record {
      events = x.events;
      reading = x.reading;
      proposed = (proposed_on (run_epoch x)).bits;
      conflict = run_constraints (run_epoch x).readings (proposed_on (run_epoch x)) (constraint_part_words worked);
    }
