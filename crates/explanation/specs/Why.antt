-- For an epoch and an action: whether the action is not proposed, accepted, or cancelled, and which line is shown for it.
use Rattle.std.specs.Prelude.{ℕ, Bool, false, ◌&&◌, List, Option, Some, None, Result, Ok, Err, ◌==◌, if◌then◌else◌}
use Rattle.std.specs.Option.{option_map_or}
use Rattle.policy.specs.declared.effect.Effect.{Effect}
use Rattle.policy.specs.declared.epoch.Epoch.{Epoch}
use Rattle.policy.specs.declared.epoch.Readings.{Readings}
use Rattle.policy.specs.Fault.{refusal}
use Rattle.policy.specs.Line.{PolicyLine, rule, constraint}
use Rattle.policy.specs.Number.{check_action}
use Rattle.policy.specs.Policy.{Policy}
use Rattle.policy.specs.Result.{result_and_then}
use Rattle.policy.specs.Set.{ActionSet, EventSet, all_events, has_action, insert_action, actions_below}
use Rattle.policy.specs.declared.fault.Fault.{Fault}
use Rattle.policy.specs.declared.fault.Refusal.{Refusal}
use Rattle.policy.specs.declared.number.Action.{Action}
use Rattle.pdl.specs.Yield as Yield
use Rattle.pdl.specs.Yield.{rule_holds, constraint_holds, with_pending, names_reserved}
use Rattle.codegen.specs.Compile.{newest_form}
use Rattle.epoch_line.specs.Epoch.{read_epoch}
use Rattle.rule_text.specs.Text.{read_texts}
use Rattle.explanation.specs.Part.{Quote, first_shown, quote_of}
use Rattle.explanation.specs.declared.why.Outcome.{Outcome}

-- ---- which lines are shown

unfoldable pub causes : Action → Effect → Bool
causes a (Effect.Causes b) = b.0 == a.0
causes a (Effect.Triggers e) = false

-- for an accepted action the rules that proposed it
unfoldable pub is_proposing_rule : Epoch → Action → PolicyLine → Bool
is_proposing_rule e a (rule r) = rule_holds (all_events e.events) e.readings r && causes a r.effect
is_proposing_rule e a (constraint c) = false

-- for a cancelled one the constraints that hold on the lower-numbered accepted actions together with it
unfoldable pub is_cancelling_constraint : Readings → ActionSet → Action → PolicyLine → Bool
is_cancelling_constraint rs accepts a (rule r) = false
is_cancelling_constraint rs accepts a (constraint c) = constraint_holds rs (insert_action (actions_below accepts a) a) c

-- ---- what became of an action that a decision accepted, cancelled, or neither

pub data Explanation : Type 0 where
  not_proposed : Explanation
  -- by the line that is quoted
  accepted_by : Quote → Explanation
  cancelled_by : Quote → Explanation

module _ (maker site : List ℕ) where
  unfoldable pub explanation_for : ActionSet → ActionSet → Epoch → Action → Explanation
  explanation_for accepts cancels e a =
      if has_action accepts a then option_map_or accepted_by (first_shown (is_proposing_rule e a) maker site) not_proposed
      else (if has_action cancels a then option_map_or cancelled_by (first_shown (is_cancelling_constraint e.readings accepts a) maker site) not_proposed
      else not_proposed)

  -- ---- an action over 63 is refused under 13, after all other checks

  unfoldable pub on_action : ActionSet → ActionSet → Epoch → Option Action → Result Explanation Refusal
  on_action accepts cancels e None = Err (refusal Fault.EpochRange 0)
  on_action accepts cancels e (Some a) = Ok (explanation_for accepts cancels e a)

  -- in an epoch with all its events, the pending ones among them
  unfoldable pub on_events : Policy → ℕ → Epoch → Result Explanation Refusal
  on_events p n e = on_action (Yield.accepted p e) (Yield.cancelled p e) e (check_action n)

  -- the epoch's faults, in no text and at no line, 18 behind those of its line
  unfoldable pub on_epoch : Policy → EventSet → ℕ → Result Epoch Refusal → Result Explanation Refusal
  on_epoch p pending n (Err r) = Err r
  on_epoch p pending n (Ok e) = if names_reserved p.rules e then Err (refusal Fault.ReservedEvent 0) else on_events p n (with_pending pending e)

  -- the texts' faults come first
  unfoldable pub explained : EventSet → List ℕ → ℕ → Result Explanation Refusal
  explained pending line n = result_and_then (λ (p : Policy). on_epoch p pending n (read_epoch line)) (read_texts newest_form maker site)

-- what is shown of the texts: nothing for an action that is not proposed
abbrev pub quoted : Explanation → Option Quote
quoted not_proposed = None
quoted (accepted_by x) = Some x
quoted (cancelled_by x) = Some x

-- what an answer of the code says
abbrev pub said_by : Outcome → Explanation
said_by Outcome.NotProposed = not_proposed
said_by (Outcome.Accepted x) = accepted_by (quote_of x)
said_by (Outcome.Cancelled x) = cancelled_by (quote_of x)
