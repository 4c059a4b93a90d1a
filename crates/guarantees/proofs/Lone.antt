-- A constraint with one action and no comparison keeps that action out of every decision.
use Rattle.std.proofs.Common.{ℕ, Bool, true, false, cond, List, Contains, ◌≡◌, refl, sym, ap, ◌∙◌, arith, Ok, Some}
use Rattle.std.proofs.lemmas.Bool.{false_from_ne_true}
use Rattle.policy.proofs.ListLaws.{contains_one}
use Rattle.policy.proofs.SetLaws.{has_empty}
use Rattle.policy.specs.declared.epoch.Epoch.{Epoch}
use Rattle.policy.specs.Fault.{refusal}
use Rattle.policy.specs.Policy.{Policy}
use Rattle.policy.specs.Set.{ActionSet, EventSet, has_action}
use Rattle.policy.specs.declared.fault.Fault.{Fault}
use Rattle.policy.specs.declared.mode.Mode.{Mode}
use Rattle.policy.specs.declared.number.Action.{Action}
use Rattle.pdl.proofs.Monitor.{lone_never_accepted, lone_always_cancelled}
use Rattle.pdl.proofs.Reduction.{issued_satisfies, issued_with_withheld, withheld_apart}
use Rattle.pdl.specs.Answer.{refuses, issues}
use Rattle.pdl.specs.Pdl.{Satisfies, lone}
use Rattle.pdl.specs.Reduction.{issued, withheld, unavoidable}
use Rattle.pdl.specs.Yield.{proposed}
use Rattle.rule_text.specs.Text.{policy_of_texts}
use Rattle.monitor.specs.Decision.{decision_in, answer_of}
use Rattle.guarantees.proofs.Agreement.{image_of_texts, same_answer}
use Rattle.guarantees.proofs.Determined.{other_in}
use Rattle.guarantees.specs.Claims.{TextsCompileTo}
use Rattle.guarantees.specs.Decisions.{KeptOut}
use Rattle.guarantees.specs.Machine.{next_epoch, yield_in, answer, step}

module _ (p : Policy) (e : Epoch) (a : Action) (listed : Contains p.constraints (lone a)) where
  rejects : (s : ActionSet) → Satisfies p.constraints e.readings s → has_action s a ≡ false
  rejects s good =
      false_from_ne_true (has_action s a)
      (λ h. good (lone a) listed (record { members = λ b k. ap (has_action s) (sym (contains_one a b k)) ∙ h; condition = λ c k. absurd (omega (arith, k.1)) }))

  kept_out : (mode : Mode) → KeptOut p e a (yield_in mode p e)
  unfolding yield_in
  kept_out Mode.Actions = record { rejected = lone_never_accepted p a listed e; cancelled = λ q. lone_always_cancelled p a listed e }
  kept_out Mode.Events = go (unavoidable p e) refl
    where
      go : (b : Bool) → unavoidable p e ≡ b → KeptOut p e a (cond b (refuses (refusal Fault.Unavoidable 0)) (issues (issued p e) (withheld p e)))
      go true q = record { rejected = has_empty a.0; cancelled = λ r. absurd cc }
      go false q =
          let out = rejects (issued p e) (issued_satisfies p e q) in
          record {
            rejected = out;
            cancelled = λ r h. other_in (proposed p.rules e) (issued p e) (withheld p e) (record { rest = issued_with_withheld p e; apart = withheld_apart p e }) a h out;
          }

pub lone_constraint_cancels : (form : ℕ) (maker site image : List ℕ) → TextsCompileTo form maker site image → (p : Policy) → policy_of_texts form maker site ≡ Some p
    → (x : Action) → Contains p.constraints (lone x) → (mode : Mode) (pending : EventSet) (line : List ℕ) (e : Epoch) → next_epoch p pending line ≡ Ok e
    → KeptOut p e x (answer_of (decision_in mode image pending line))
unfolding step answer
lone_constraint_cancels form maker site image c p q x listed mode pending line e r =
    let t = image_of_texts form maker site image c in
    let same : t.policy ≡ p = cc (q, t.read) in
    rw (t.same, same_answer form t.form_known t.policy t.acceptable mode pending line, same, r) (kept_out p e x listed mode)
