-- What became of an action: each way through the functions that answer it.
use Rattle.std.proofs.Common.{Result, Ok, Err, ℕ, ◌+◌, Bool, true, List, [], ◌∷◌, ◌≡◌, refl, sym, ap, ◌∙◌, arith, length, take}
use Rattle.policy.specs.declared.epoch.Epoch.{Epoch}
use Rattle.policy.specs.Limits.{valid, Acceptable}
use Rattle.policy.specs.Line.{PolicyLine}
use Rattle.policy.specs.Number.{check_action}
use Rattle.policy.specs.Policy.{Policy}
use Rattle.policy.specs.Result.{result_and_then}
use Rattle.policy.specs.Set.{ActionSet, EventSet, insert_action, actions_below}
use Rattle.policy.specs.declared.fault.Refusal.{Refusal}
use Rattle.policy.specs.declared.number.Action.{Action}
use Rattle.lexer.specs.Lines.{lines_of}
use Rattle.acceptance.proofs.Accepted.{accepted_valid, texts_acceptable}
use Rattle.codegen.proofs.AcceptedLaws.{newest_known}
use Rattle.codegen.proofs.RoomLaws.{texts_refusal, texts_read_is}
use Rattle.codegen.specs.Compile.{newest_form, compiled_texts}
use Rattle.epoch_line.specs.Epoch.{read_epoch}
use Rattle.layout.specs.Layout.{image_of, size_limit}
use Rattle.meaning.proofs.Decided.{image_refuses, image_reserves, image_decides}
use Rattle.pdl.specs.Yield as Yield
use Rattle.pdl.specs.Yield.{with_pending, names_reserved}
use Rattle.explanation.proofs.TellLaws.{rules_sought, constraints_sought}
use Rattle.explanation.specs.Part.{or_later, first_from, first_shown}
use Rattle.explanation.specs.Why.{is_proposing_rule, is_cancelling_constraint, Explanation, on_events, on_epoch, explained}
use Rattle.explanation.specs.Steps.On.{on_decision, explained_on}
use Rattle.explanation.specs.Steps.Sought.{sought_by}
use Rattle.explanation.specs.declared.find.Sought.{Sought}

-- ---- tests that agree on valid lines show the same

module _ (s t : PolicyLine → Bool) (agree : (l : PolicyLine) → valid l ≡ true → s l ≡ t l) where
  first_same : (at : ℕ) (lines : List (List ℕ)) → first_from s at lines ≡ first_from t at lines
  unfolding first_from or_later
  first_same at [] = refl
  first_same at (line ∷ lines) = grind (arith, first_same (at + length line + 1) lines, agree, accepted_valid)

  shown_same : (maker site : List ℕ) → first_shown s maker site ≡ first_shown t maker site
  unfolding first_shown
  shown_same maker site = rw (first_same 0 (lines_of maker), first_same 0 (lines_of site)) refl

-- what the code seeks shows what is to be shown
pub proposing_shown : (maker site : List ℕ) (e : Epoch) (a : Action) → first_shown (sought_by (Sought.Proposing a) e) maker site ≡ first_shown (is_proposing_rule e a) maker site
proposing_shown maker site e a = shown_same _ (is_proposing_rule e a) (rules_sought e a) maker site

pub cancelling_shown : (maker site : List ℕ) (e : Epoch) (accepts : ActionSet) (a : Action)
    → first_shown (sought_by (Sought.Violated (insert_action (actions_below accepts a) a)) e) maker site ≡ first_shown (is_cancelling_constraint e.readings accepts a) maker site
cancelling_shown maker site e accepts a = shown_same _ (is_cancelling_constraint e.readings accepts a) (constraints_sought e accepts a) maker site

-- ---- on the image of the texts

pub on_image_is : (maker site : List ℕ) (pending : EventSet) (line : List ℕ) (n : ℕ) (p : Policy) → Acceptable newest_form p
    → explained_on maker site pending line n (image_of newest_form p) ≡ on_epoch maker site p pending n (read_epoch line)
unfolding explained_on on_decision on_epoch on_events Yield.cancelled
on_image_is maker site pending line n p ok =
    grind (arith, image_refuses newest_form newest_known p ok pending line, image_reserves newest_form newest_known p ok pending line, image_decides newest_form newest_known p ok pending line)

module _ (maker site : List ℕ) (pending : EventSet) (line : List ℕ) (n : ℕ) (buffer written : List ℕ) (answer : Result ℕ Refusal) (made : answer ≡ (compiled_texts newest_form maker site buffer).answer)
    (wrote : written ≡ (compiled_texts newest_form maker site buffer).buffer) (long : length buffer ≡ size_limit) where
  pub explains_refusal : (r : Refusal) → answer ≡ Err r → Err r ≡ explained maker site pending line n
  unfolding explained
  explains_refusal r e = rw (texts_refusal newest_form newest_known maker site buffer long r (sym made ∙ e))

  pub explains_image : (size : ℕ) → answer ≡ Ok size → (x : Result Explanation Refusal) → x ≡ explained_on maker site pending line n (take size written) → x ≡ explained maker site pending line n
  unfolding explained
  explains_image size e x h =
      let r = texts_read_is newest_form newest_known maker site buffer long size (sym made ∙ e) in
      let image : take size written ≡ image_of newest_form r.policy = ap (take size) wrote ∙ r.image in
      h ∙ ap (explained_on maker site pending line n) image ∙ on_image_is maker site pending line n r.policy (texts_acceptable newest_form maker site r.policy r.read)
      ∙ sym (ap (result_and_then (λ (p : Policy). on_epoch maker site p pending n (read_epoch line))) r.read)

-- a number counts only by the action that it is
pub same_action : (maker site : List ℕ) (pending : EventSet) (line : List ℕ) (m n : ℕ) → check_action m ≡ check_action n → explained maker site pending line m ≡ explained maker site pending line n
unfolding explained on_epoch on_events
same_action maker site pending line m n h = grind arith
