-- A decision with the state that it leaves.
use Rattle.std.specs.Prelude.{Result}
use Rattle.policy.specs.declared.fault.Refusal.{Refusal}
use Rattle.monitor.specs.declared.decision.Actions.{Actions}
use Rattle.monitor.specs.declared.state.Decided.{Decided}
use Rattle.monitor.specs.declared.state.State.{State}

abbrev pub decided : Result Actions Refusal → State → Decided
decided answer state = record { answer = answer; pending = state.pending }
