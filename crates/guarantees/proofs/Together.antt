-- What is decided by the function that compiles and decides.
use Rattle.policy.specs.declared.fault.Refusal.{Refusal}
use Rattle.std.proofs.Common.{arith, ℕ, List, ◌≡◌, sym, ap, ◌∙◌, length, take, Result, Ok, Err}
use Rattle.acceptance.proofs.Accepted.{texts_acceptable}
use Rattle.codegen.proofs.Compilation.{texts_form_refused, texts_written}
use Rattle.codegen.specs.Compile.{in_form, compiled_texts}
use Rattle.codegen.proofs.RoomLaws.{texts_refusal, texts_read_is}
use Rattle.policy.specs.Set.{no_events}
use Rattle.rule_text.specs.Text.{read_texts}
use Rattle.monitor.specs.declared.decision.Actions.{Actions}
use Rattle.guarantees.specs.Together.{decided_lines, DecidedBy}
use Rattle.guarantees.specs.declared.Told.{Told}
use Rattle.guarantees.proofs.LineLaws.{decided_agree}
use Rattle.layout.specs.Layout.{size_limit}

module _ (form : ℕ) (maker site buffer written : List ℕ) (size : ℕ) (made : Ok size ≡ (compiled_texts form maker site buffer).answer)
    (wrote : written ≡ (compiled_texts form maker site buffer).buffer) (long : length buffer ≡ size_limit) where
  pub together_decided : (lines : List Told) (old new : List (Result Actions Refusal)) → new ≡ decided_lines (take size written) no_events lines old → DecidedBy form maker site lines old new
  together_decided lines old new q =
      let known = (texts_written form maker site buffer size (sym made)).form_known in
      let t = texts_read_is form known maker site buffer long size (sym made) in
      let d = q ∙ ap (λ (i : List ℕ). decided_lines i no_events lines old) (ap (take size) wrote ∙ t.image) in
      record { known = known; policy = t.policy; read = t.read; decided = d; agreed = rw d (decided_agree form known t.policy (texts_acceptable form maker site t.policy t.read) lines old) }

-- a compilation for which there is room is refused for the form or for the texts
module _ (form : ℕ) (maker site buffer : List ℕ) (long : length buffer ≡ size_limit) where
  pub together_refused : (r : Refusal) → (compiled_texts form maker site buffer).answer ≡ Err r → in_form form (read_texts form maker site) ≡ Err r
  together_refused r e = grind (arith, texts_refusal, texts_form_refused)
