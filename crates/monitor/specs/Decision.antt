-- What is decided on an image and an epoch line, in each mode (docs/REFERENCE.md, "What an epoch yields" and "Running an image"). Past
-- the faults for which it is refused it speaks of what the image's words do when they are run, and not of a policy.
use Rattle.std.specs.Prelude.{ℕ, ◌+◌, Bool, if◌then◌else◌, List, Result, Ok, Err, nat_le}
use Rattle.policy.specs.Limits.{trigger_form}
use Rattle.policy.specs.declared.effect.Effects.{Effects}
use Rattle.policy.specs.declared.epoch.Epoch.{Epoch}
use Rattle.policy.specs.declared.epoch.Readings.{Readings}
use Rattle.policy.specs.Fault.{refusal}
use Rattle.policy.specs.Set.{ActionSet, EventSet, all_events, keeping, no_events, actions_without, set_of, meets}
use Rattle.policy.specs.declared.fault.Fault.{Fault}
use Rattle.policy.specs.declared.fault.Refusal.{Refusal}
use Rattle.policy.specs.declared.mode.Mode.{Mode}
use Rattle.pdl.specs.Answer.{Answer, refuses, issues}
use Rattle.pdl.specs.Greedy.{greedy, trials_cost}
use Rattle.pdl.specs.Yield.{with_pending}
use Rattle.epoch_line.specs.Epoch.{read_epoch}
use Rattle.image.specs.Load.{Contents, load}
use Rattle.run.specs.Run.{run_rules, run_constraints, reserved_by, rule_fetches, trial_fetches}
use Rattle.monitor.specs.declared.decision.Actions.{Actions}
use Rattle.monitor.specs.declared.state.Decided.{Decided}

-- ---- an epoch

-- what rule words propose and trigger: none of the epoch's events is left out
abbrev pub proposed_by : List ℕ → Epoch → ActionSet
proposed_by rules e = (run_rules (all_events e.events) e.readings rules).actions

abbrev pub triggered_by : List ℕ → Epoch → EventSet
triggered_by rules e = (run_rules (all_events e.events) e.readings rules).events

-- whether constraint words say that a constraint holds on a set of actions
abbrev pub conflict_by : List ℕ → Readings → ℕ → Bool
conflict_by constraints rs s = run_constraints rs (set_of s) constraints

-- what is kept of a set of actions: by rising number, each unless a constraint holds on those kept so far together with it
unfoldable pub kept_by : List ℕ → Readings → ActionSet → ActionSet
kept_by constraints rs s = set_of (greedy (conflict_by constraints rs) s.bits)

-- how many words the trial of a set of actions fetches
abbrev pub trial_words : List ℕ → Readings → ℕ → ℕ
trial_words constraints rs s = trial_fetches rs (set_of s) constraints

-- how many all trials fetch: one for each action of the set, kept or not
unfoldable pub tried_words : List ℕ → Readings → ActionSet → ℕ
tried_words constraints rs s = trials_cost (conflict_by constraints rs) (trial_words constraints rs) s.bits

-- each rule word that is fetched, and each constraint word that is fetched in each trial
abbrev pub visited_by : List ℕ → List ℕ → Epoch → ℕ
visited_by rules constraints e = rule_fetches (all_events e.events) e.readings rules + tried_words constraints e.readings (proposed_by rules e)

-- the proposed actions that are not kept are cancelled
abbrev pub actions_of : ActionSet → ActionSet → EventSet → ℕ → Actions
actions_of all kept triggered visited = record { accepted = kept; cancelled = actions_without all kept; triggered = triggered; visited = visited }

unfoldable pub yielded_by : List ℕ → List ℕ → Epoch → Actions
yielded_by rules constraints e =
    actions_of (proposed_by rules e) (kept_by constraints e.readings (proposed_by rules e)) (triggered_by rules e) (visited_by rules constraints e)

-- ---- the same in the second mode

-- what rule words do where these of the epoch's events are kept
abbrev pub effects_with_by : List ℕ → Epoch → EventSet → Effects
effects_with_by rules e kept = run_rules (keeping e.events kept) e.readings rules

abbrev pub proposed_with_by : List ℕ → Epoch → EventSet → ActionSet
proposed_with_by rules e kept = (effects_with_by rules e kept).actions

-- whether constraint words say that a constraint holds on it
abbrev pub clash_by : List ℕ → List ℕ → Epoch → ℕ → Bool
clash_by rules constraints e kept = run_constraints e.readings (proposed_with_by rules e (set_of kept)) constraints

-- what is kept of the epoch's events: by rising number, each unless a constraint holds on what is then proposed
unfoldable pub kept_events_by : List ℕ → List ℕ → Epoch → EventSet
kept_events_by rules constraints e = set_of (greedy (clash_by rules constraints e) e.events.bits)

-- how many words the trial of events fetches: those of all rules, and those of the constraints to the first that holds
abbrev pub clash_words : List ℕ → List ℕ → Epoch → ℕ → ℕ
clash_words rules constraints e kept =
    rule_fetches (keeping e.events (set_of kept)) e.readings rules
    + trial_fetches e.readings (proposed_with_by rules e (set_of kept)) constraints

-- how many all trials fetch: one with no event, and one for each event of the epoch, kept or not
unfoldable pub tried_event_words : List ℕ → List ℕ → Epoch → ℕ
tried_event_words rules constraints e =
    clash_words rules constraints e 0 + trials_cost (clash_by rules constraints e) (clash_words rules constraints e) e.events.bits

-- what the kept events propose is issued, and what they trigger occurs in the next epoch
unfoldable pub reduced_by : List ℕ → List ℕ → Epoch → Actions
reduced_by rules constraints e =
    let kept : Effects = effects_with_by rules e (kept_events_by rules constraints e) in
    actions_of (proposed_by rules e) kept.actions kept.events (tried_event_words rules constraints e)

-- unless a constraint holds already with no event kept
unfoldable pub reduction_by : List ℕ → List ℕ → Epoch → Result Actions Refusal
reduction_by rules constraints e =
    if clash_by rules constraints e 0 then Err (refusal Fault.Unavoidable 0) else Ok (reduced_by rules constraints e)

-- ---- the words of an image

unfoldable pub decided_by : Mode → Contents → Epoch → Result Actions Refusal
decided_by Mode.Actions image e = Ok (yielded_by image.parts.rules image.parts.constraints e)
decided_by Mode.Events image e = reduction_by image.parts.rules image.parts.constraints e

-- the events that some line of an image triggers, in a form that has such lines
unfoldable pub reserved_in : Contents → EventSet
reserved_in image = if nat_le trigger_form image.form then reserved_by image.parts.rules else no_events

-- the image's faults come first, then those of the line, and then 18, where it names an event that is reserved. The events of the epoch are
-- those that the line names and those that are pending.
unfoldable pub on_image : Mode → (pending : EventSet) → Result Contents Refusal → Result Epoch Refusal → Result Actions Refusal
on_image mode pending (Err r) epoch = Err r
on_image mode pending (Ok image) (Err r) = Err r
on_image mode pending (Ok image) (Ok e) =
    if meets (reserved_in image) e.events then Err (refusal Fault.ReservedEvent 0) else decided_by mode image (with_pending pending e)

unfoldable pub decision_in : Mode → (image : List ℕ) → (pending : EventSet) → (line : List ℕ) → Result Actions Refusal
decision_in mode image pending line = on_image mode pending (load image) (read_epoch line)

-- in the first mode
abbrev pub decision : (image : List ℕ) → (pending : EventSet) → (line : List ℕ) → Result Actions Refusal
decision = decision_in Mode.Actions

-- ---- from one epoch to the next

-- the events that are pending behind a decision: those that the epoch triggered, or where it was refused those before
unfoldable pub pending_after : EventSet → Result Actions Refusal → EventSet
pending_after pending (Err r) = pending
pending_after pending (Ok actions) = actions.triggered

-- a decision, and the events that are pending behind it
unfoldable pub advanced : Mode → (image : List ℕ) → (pending : EventSet) → (line : List ℕ) → Decided
advanced mode image pending line =
    let answer : Result Actions Refusal = decision_in mode image pending line in
    record { answer = answer; pending = pending_after pending answer }

-- ---- what a decision says

-- number, place and both sets
abbrev pub answer_of : Result Actions Refusal → Answer
answer_of (Err r) = refuses r
answer_of (Ok actions) = issues actions.accepted actions.cancelled

-- how many words were fetched: none where the decision is refused
abbrev pub visited_in : Result Actions Refusal → ℕ
visited_in (Err r) = 0
visited_in (Ok actions) = actions.visited
