-- The answer on an image: what `decide` decided on it tells what became of the action.
use Rattle.std.specs.Prelude.{ℕ, List, Result, Ok, Err}
use Rattle.policy.specs.Number.{check_action}
use Rattle.policy.specs.Set.{EventSet}
use Rattle.policy.specs.declared.epoch.Epoch.{Epoch}
use Rattle.policy.specs.declared.fault.Refusal.{Refusal}
use Rattle.pdl.specs.Yield.{with_pending}
use Rattle.epoch_line.specs.Epoch.{read_epoch}
use Rattle.monitor.specs.Decision.{decision}
use Rattle.monitor.specs.declared.decision.Actions.{Actions}
use Rattle.explanation.specs.Why.{Explanation, on_action}

module _ (maker site : List ℕ) where
  unfoldable pub on_decision : EventSet → ℕ → Result Actions Refusal → Result Epoch Refusal → Result Explanation Refusal
  on_decision pending n (Err r) epoch = Err r
  on_decision pending n (Ok actions) (Err r) = Err r
  on_decision pending n (Ok actions) (Ok e) = on_action maker site actions.accepted actions.cancelled (with_pending pending e) (check_action n)

  unfoldable pub explained_on : EventSet → List ℕ → ℕ → List ℕ → Result Explanation Refusal
  explained_on pending line n image = on_decision pending n (decision image pending line) (read_epoch line)
