-- What the functions of the second mode answer.
use Rattle.std.specs.Prelude.{ℕ, ◌+◌, List}
use Rattle.policy.specs.declared.epoch.Epoch.{Epoch}
use Rattle.policy.specs.declared.epoch.Readings.{Readings}
use Rattle.policy.specs.declared.set.Events.{Events}
use Rattle.run.specs.Run.{run_rules, run_constraints, rule_fetches, trial_fetches}
use Rattle.monitor.specs.Decision.{effects_with_by, kept_events_by, tried_event_words}
use Rattle.monitor.specs.declared.events.EventTrial.{EventTrial}
use Rattle.monitor.specs.declared.events.KeptEvents.{KeptEvents}

-- the trial of some events of an epoch
abbrev pub trial_of : List ℕ → List ℕ → Events → Readings → EventTrial
trial_of rules constraints ev rs =
    record {
      effects = run_rules ev rs rules;
      conflict = run_constraints rs (run_rules ev rs rules).actions constraints;
      words = rule_fetches ev rs rules + trial_fetches rs (run_rules ev rs rules).actions constraints;
    }

-- the events that are kept in the end, what they yield, and the words of all trials
abbrev pub kept_of : List ℕ → List ℕ → Epoch → KeptEvents
kept_of rules constraints e =
    record {
      events = kept_events_by rules constraints e;
      effects = effects_with_by rules e (kept_events_by rules constraints e);
      words = tried_event_words rules constraints e;
    }
