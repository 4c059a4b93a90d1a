-- The answer of a decision, as numbers: the fault's number and location, 0 where nothing is refused.
use Rattle.policy.specs.Fault.{fault_number}
use Rattle.std.specs.Prelude.{Result, Ok, Err}
use Rattle.policy.specs.declared.fault.Refusal.{Refusal}
use Rattle.monitor.specs.declared.decision.Actions.{Actions}
use Rattle.export.specs.declared.EpochDecision.{EpochDecision}

unfoldable pub decision_of : Result Actions Refusal → EpochDecision
decision_of (Err r) = record { fault = fault_number r.fault; word = r.location; accepted = 0; cancelled = 0; triggered = 0; visited = 0 }
decision_of (Ok actions) =
    record { fault = 0; word = 0; accepted = actions.accepted.bits; cancelled = actions.cancelled.bits; triggered = actions.triggered.bits; visited = actions.visited }
