-- The events of an epoch, tried from the lowest on.
use Rattle.std.proofs.Common.{ℕ, ◌+◌, ◌/◌, ◌^◌, ◌<◌, Bool, cond, refl, List, ◌≡◌, sym, ap, ◌∙◌, arith, length}
use Rattle.policy.specs.declared.effect.Effects.{Effects}
use Rattle.policy.specs.declared.epoch.Epoch.{Epoch}
use Rattle.policy.specs.Set.{EventSet, keeping, no_events, insert_event, insert}
use Rattle.policy.specs.declared.set.Events.{Events}
use Rattle.monitor.proofs.FewLaws.{clash_few}
use Rattle.monitor.proofs.TrialLaws.{Tried, tried_none, Next, trial_turn, tried_all}
use Rattle.monitor.specs.Decision.{effects_with_by, clash_by, clash_words, kept_events_by, tried_event_words}
use Rattle.monitor.specs.Steps.Trial.{trial_of, kept_of}
use Rattle.monitor.specs.declared.events.EventTrial.{EventTrial}
use Rattle.monitor.specs.declared.events.KeptEvents.{KeptEvents}

module _ (rules constraints : List ℕ) (e : Epoch) where
  -- the events under n were tried, and those kept yield the effects
  pub record KeptSoFar (kept : EventSet) (effects : Effects) (spent left n : ℕ) : Type 0 where
    pub tried : Tried (clash_by rules constraints e) (clash_words rules constraints e) e.events.bits kept.bits spent left n
    pub yields : effects ≡ effects_with_by rules e kept

module _ {rules constraints : List ℕ} (p : length rules < 4096) (q : length constraints < 4096) where
  pub kept_none : {e : Epoch} {none : EventTrial} → none ≡ trial_of rules constraints (keeping e.events no_events) e.readings → e.events.bits < 2 ^ 64
      → KeptSoFar rules constraints e no_events none.effects 0 e.events.bits 0
  kept_none {e} t small = record { tried = tried_none small (clash_few rules constraints p q e); yields = ap (λ (x : EventTrial). x.effects) t }

module _ {rules constraints : List ℕ} {e : Epoch} {kept : EventSet} {effects : Effects} {spent left n : ℕ} where
  -- the trial of n says b
  pub event_turn : effects ≡ effects_with_by rules e kept → Next (clash_by rules constraints e) (clash_words rules constraints e) e.events.bits kept.bits spent left n → {more : EventSet} → more ≡ insert_event kept (record { 0 = n })
      → {ev : Events} → ev ≡ keeping e.events more → {trial : EventTrial} → trial ≡ trial_of rules constraints ev e.readings → (b : Bool) → trial.conflict ≡ b
      → {kept' : EventSet} {effects' : Effects} → kept' ≡ cond b kept more → effects' ≡ cond b effects trial.effects → KeptSoFar rules constraints e kept' effects' (spent + trial.words) (left / 2) (n + 1)
  event_turn y x {more} m {ev} v {trial} t b says {kept'} {effects'} k f =
      let shown : trial ≡ trial_of rules constraints (keeping e.events more) e.readings = rw v at t in
      let bits : more.bits ≡ insert kept.bits n = ap (λ (s : EventSet). s.bits) m in
      record {
        tried = trial_turn x b (sym says ∙ ap (λ (x : EventTrial). x.conflict) shown ∙ ap (clash_by rules constraints e) bits) (ap (λ (x : EventTrial). x.words) shown ∙ ap (clash_words rules constraints e) bits)
            (rw k (grind arith)) refl;
        yields = rw (k, f) (grind (arith, shown));
      }

  -- none is left
  pub all_tried : KeptSoFar rules constraints e kept effects spent left n → left ≡ 0 → {none : EventTrial} → none ≡ trial_of rules constraints (keeping e.events no_events) e.readings
      → ◌≡◌ {A = KeptEvents} (record { events = kept; effects = effects; words = none.words + spent }) (kept_of rules constraints e)
  unfolding kept_events_by tried_event_words
  all_tried k z t = grind (arith, tried_all)
