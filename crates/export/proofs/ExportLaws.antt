-- Whether a decision was refused, by its number.
use Rattle.std.proofs.Common.{ℕ, false, ◌≡◌, refl, sym, ap, ◌∙◌, Result, Ok, Err, eqb}
use Rattle.std.proofs.lemmas.Bool.{both_ways}
use Rattle.policy.proofs.FaultLaws.{fault_number_positive}
use Rattle.policy.specs.Set.{set_of}
use Rattle.policy.specs.declared.fault.Refusal.{Refusal}
use Rattle.monitor.specs.Decision.{pending_after}
use Rattle.monitor.specs.declared.decision.Actions.{Actions}
use Rattle.export.specs.declared.EpochDecision.{EpochDecision}
use Rattle.export.specs.Export.{decision_of}

module _ (pending : ℕ) (d : EpochDecision) where
  pub decided_pending : d.fault ≡ 0 → (answer : Result Actions Refusal) → d ≡ decision_of answer → d.triggered ≡ (pending_after (set_of pending) answer).bits
  unfolding decision_of pending_after
  decided_pending h (Ok actions) e = ap (λ (x : EpochDecision). x.triggered) e
  decided_pending h (Err r) e = absurd (fault_number_positive r.fault (sym (ap (λ (x : EpochDecision). x.fault) e) ∙ h))

  pub refused_pending : eqb d.fault 0 ≡ false → (answer : Result Actions Refusal) → d ≡ decision_of answer → pending ≡ (pending_after (set_of pending) answer).bits
  unfolding decision_of pending_after
  refused_pending h (Ok actions) e = absurd (both_ways _ h (rw (ap (λ (x : EpochDecision). x.fault) e)))
  refused_pending h (Err r) e = refl
