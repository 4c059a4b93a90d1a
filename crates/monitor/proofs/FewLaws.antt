-- How many words trials and decisions fetch at the most, where an image has fewer than 4,096 words in each part.
use Rattle.std.proofs.Common.{ℕ, ◌*◌, ◌≤◌, ◌<◌, List, arith, length}
use Rattle.policy.specs.declared.epoch.Epoch.{Epoch}
use Rattle.policy.specs.declared.epoch.Readings.{Readings}
use Rattle.policy.specs.Set.{ActionSet, EventSet, all_events, set_of}
use Rattle.policy.specs.declared.mode.Mode.{Mode}
use Rattle.pdl.proofs.CostLaws.{trials_limit}
use Rattle.image.specs.Load.{Contents}
use Rattle.run.proofs.FetchLaws.{rule_fetches_few, trial_fetches_few}
use Rattle.image.proofs.HeldLaws.{taken_small}
use Rattle.monitor.specs.Decision.{proposed_by, conflict_by, trial_words, tried_words, clash_by, clash_words, tried_event_words, yielded_by, reduced_by, reduction_by, decided_by, on_image, decision_in, visited_in}

module _ (constraints : List ℕ) (few : length constraints < 8192) (rs : Readings) where
  pub trial_few : (s : ℕ) → trial_words constraints rs s ≤ 8192
  trial_few s = omega (arith, trial_fetches_few rs constraints (set_of s))

  pub tried_few : (s : ActionSet) → tried_words constraints rs s ≤ 64 * 8192
  unfolding tried_words
  tried_few s = trials_limit (conflict_by constraints rs) (trial_words constraints rs) s.bits 8192 trial_few

module _ (rules constraints : List ℕ) (p : length rules < 4096) (n : length constraints < 4096) (e : Epoch) where
  pub clash_few : (kept : ℕ) → clash_words rules constraints e kept ≤ 8192
  clash_few kept = grind (arith, rule_fetches_few, trial_fetches_few)

  yielded_few : (yielded_by rules constraints e).visited ≤ 65 * 8192
  unfolding yielded_by
  yielded_few = omega (arith, rule_fetches_few e.readings rules (all_events e.events), tried_few constraints (omega (arith, n)) e.readings (proposed_by rules e))

  reduced_few : visited_in (reduction_by rules constraints e) ≤ 65 * 8192
  unfolding reduction_by reduced_by tried_event_words
  reduced_few = grind (arith, clash_few 0, trials_limit (clash_by rules constraints e) (clash_words rules constraints e) e.events.bits 8192 clash_few)

-- ---- the words of an image

decided_few : (mode : Mode) (contents : Contents) (e : Epoch) → (length contents.parts.rules < 4096) × (length contents.parts.constraints < 4096) → visited_in (decided_by mode contents e) ≤ 65 * 8192
unfolding decided_by
decided_few Mode.Actions contents e small = yielded_few contents.parts.rules contents.parts.constraints small.0 small.1 e
decided_few Mode.Events contents e small = reduced_few contents.parts.rules contents.parts.constraints small.0 small.1 e

-- the words that a decision fetches are a number of 64 bits
pub visited_few : (mode : Mode) (image : List ℕ) (pending : EventSet) (line : List ℕ) → visited_in (decision_in mode image pending line) ≤ 65 * 8192
unfolding decision_in on_image
visited_few mode image pending line = grind (arith, decided_few, taken_small image)
