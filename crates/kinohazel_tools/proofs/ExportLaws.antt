-- The answer for C, case by case: `x` is what the function below answered.
use Rattle.std.proofs.Common.{ℕ, List, ◌≡◌, ap, ap₂, ◌∙◌, Ok, Err}
use Rattle.policy.specs.Fault.{fault_number, source_number}
use Rattle.policy.specs.Number.{check_action}
use Rattle.policy.specs.Set.{EventSet}
use Rattle.policy.specs.declared.fault.Refusal.{Refusal}
use Rattle.explanation.proofs.WhyLaws.{same_action}
use Rattle.explanation.specs.Why.{Explanation, explained}
use Rattle.kinohazel_tools.specs.declared.ActionExplanation.{ActionExplanation}
use Rattle.kinohazel_tools.specs.Export.{explanation_of}

module _ (maker site : List ℕ) (pending : EventSet) (line : List ℕ) (number action : ℕ) (same : check_action number ≡ check_action action) where
  pub explain_refused : (r : Refusal) (k t : ℕ) → Err r ≡ explained maker site pending line number → k ≡ fault_number r.fault → t ≡ source_number r.source
      → record { fault = k; text = t; line = r.location; outcome = 0; part_text = 0; part_start = 0; part_length = 0 } ≡ explanation_of (explained maker site pending line action)
  unfolding explanation_of
  explain_refused r k t e h i =
      ap₂ (λ (n m : ℕ). record { fault = n; text = m; line = r.location; outcome = 0; part_text = 0; part_start = 0; part_length = 0 }) h i
      ∙ ap explanation_of (e ∙ same_action maker site pending line number action same)

  pub explain_said : (x : Explanation) (y : ActionExplanation) → Ok x ≡ explained maker site pending line number → y ≡ explanation_of (Ok x) → y ≡ explanation_of (explained maker site pending line action)
  explain_said x y e h = h ∙ ap explanation_of (e ∙ same_action maker site pending line number action same)
