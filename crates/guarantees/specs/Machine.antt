-- The reference machine. It sees a rule text and epoch lines, each with its mode, and no image. For each line it answers the line's
-- fault, or what the text's rules and never lines yield on it (docs/REFERENCE.md, "What an epoch yields"). From one line to the next it
-- keeps a set of events.
use Rattle.policy.specs.declared.fault.Refusal.{Refusal}
use Rattle.std.specs.Prelude.{ℕ, List, [], ◌∷◌, Result, Ok, Err, Option, option_map, if◌then◌else◌}
use Rattle.policy.specs.declared.epoch.Epoch.{Epoch}
use Rattle.policy.specs.Fault.{refusal}
use Rattle.policy.specs.Policy.{Policy}
use Rattle.policy.specs.Result.{result_and_then}
use Rattle.policy.specs.Set.{EventSet, no_events}
use Rattle.policy.specs.declared.fault.Fault.{Fault}
use Rattle.policy.specs.declared.mode.Mode.{Mode}
use Rattle.pdl.specs.Answer.{Answer, refuses, issues}
use Rattle.pdl.specs.Reduction.{issued, withheld, kept_triggers, unavoidable}
use Rattle.pdl.specs.Yield as Yield
use Rattle.pdl.specs.Yield.{triggered, with_pending, names_reserved}
use Rattle.epoch_line.specs.Epoch.{read_epoch}
use Rattle.rule_text.specs.Text.{policy_of, policy_of_texts}

-- ---- the epoch of a line

-- its events are those that the line names and those that are pending. It is refused under 18 where the line names an event that some
-- rule triggers
unfoldable pub on_named : Policy → EventSet → Epoch → Result Epoch Refusal
on_named p pending e = if names_reserved p.rules e then Err (refusal Fault.ReservedEvent 0) else Ok (with_pending pending e)

unfoldable pub next_epoch : Policy → (pending : EventSet) → (line : List ℕ) → Result Epoch Refusal
next_epoch p pending line = result_and_then (on_named p pending) (read_epoch line)

-- ---- what a policy yields on an epoch

-- in each mode; in the second it may be a refusal
unfoldable pub yield_in : Mode → Policy → Epoch → Answer
yield_in Mode.Actions p e = issues (Yield.accepted p e) (Yield.cancelled p e)
yield_in Mode.Events p e = if unavoidable p e then refuses (refusal Fault.Unavoidable 0) else issues (issued p e) (withheld p e)

-- and the events that it triggers
unfoldable pub triggered_in : Mode → Policy → Epoch → EventSet
triggered_in Mode.Actions p e = triggered p.rules e
triggered_in Mode.Events p e = kept_triggers p e

-- ---- an epoch line

unfoldable pub answer : Mode → Policy → Result Epoch Refusal → Answer
answer mode p (Err r) = refuses r
answer mode p (Ok e) = yield_in mode p e

-- the answer to a line, where the machine keeps a set of events
unfoldable pub step : Mode → Policy → EventSet → List ℕ → Answer
step mode p set line = answer mode p (next_epoch p set line)

-- the set that it keeps behind the line: after an accepted one the events that the epoch triggered, after a refused one as before
unfoldable pub set_after : EventSet → Mode → Policy → Result Epoch Refusal → EventSet
set_after set mode p (Err r) = set
set_after set mode p (Ok e) = if (yield_in mode p e).is_refused then set else triggered_in mode p e

unfoldable pub next_set : Mode → Policy → EventSet → List ℕ → EventSet
next_set mode p set line = set_after set mode p (next_epoch p set line)

-- ---- epoch lines one after another

-- an epoch line and its mode
pub record ToldLine : Type 0 where
  pub mode : Mode
  pub line : List ℕ

unfoldable pub steps : Policy → EventSet → List ToldLine → List Answer
steps p set [] = []
steps p set (x ∷ lines) = step x.mode p set x.line ∷ steps p (next_set x.mode p set x.line) lines

unfoldable pub set_behind : Policy → EventSet → List ToldLine → EventSet
set_behind p set [] = set
set_behind p set (x ∷ lines) = set_behind p (next_set x.mode p set x.line) lines

-- from the text it has the rules and the never lines; there are none where the text is refused. At the start the set is empty
unfoldable pub machine_of : Option Policy → List ToldLine → Option (List Answer)
machine_of known lines = option_map (λ (p : Policy). steps p no_events lines) known

unfoldable pub set_of_machine : Option Policy → List ToldLine → Option EventSet
set_of_machine known lines = option_map (λ (p : Policy). set_behind p no_events lines) known

-- of a text for images of a form
abbrev pub machine : ℕ → List ℕ → List ToldLine → Option (List Answer)
machine form text lines = machine_of (policy_of form text) lines

abbrev pub machine_set : ℕ → List ℕ → List ToldLine → Option EventSet
machine_set form text lines = set_of_machine (policy_of form text) lines

-- the same from the maker's and the site's text
abbrev pub machine_of_texts : ℕ → List ℕ → List ℕ → List ToldLine → Option (List Answer)
machine_of_texts form maker site lines = machine_of (policy_of_texts form maker site) lines

abbrev pub machine_set_of_texts : ℕ → List ℕ → List ℕ → List ToldLine → Option EventSet
machine_set_of_texts form maker site lines = set_of_machine (policy_of_texts form maker site) lines
