-- What a compilation to a known form, into a buffer with room for every image, says of the text, or of two.
use Rattle.std.proofs.Common.{Result, Ok, Err, ℕ, ◌≤◌, true, List, ◌≡◌, arith, length, take}
use Rattle.policy.specs.Limits.{Acceptable}
use Rattle.policy.specs.Policy.{Policy}
use Rattle.policy.specs.declared.fault.Refusal.{Refusal}
use Rattle.acceptance.proofs.Accepted.{accepted_acceptable, texts_acceptable}
use Rattle.rule_text.specs.Text.{read_text, read_texts}
use Rattle.exactness.proofs.Exact.{image_size}
use Rattle.layout.specs.Layout.{known_form, image_of, size_limit}
use Rattle.image.specs.Check.{well_sized}
use Rattle.policy.proofs.ResultLaws as result_laws
use Rattle.codegen.proofs.Compilation.{image_written, texts_written}
use Rattle.codegen.specs.Compile.{in_form, output_of, compiled, compiled_texts}

-- what was read, be it a text or two, and its image
pub record Read (form : ℕ) (s : Result Policy Refusal) (buffer : List ℕ) (size : ℕ) : Type 0 where
  pub policy : Policy
  pub read : s ≡ Ok policy
  pub image : take size buffer ≡ image_of form policy

module _ (form : ℕ) (known : known_form form ≡ true) where
  pub image_small : (p : Policy) → Acceptable form p → length (image_of form p) ≤ size_limit
  unfolding well_sized
  image_small p ok = grind (arith, image_size form known p ok)

  module _ (s : Result Policy Refusal) (keeps : (p : Policy) → s ≡ Ok p → Acceptable form p) (buffer : List ℕ) (room : length buffer ≡ size_limit) where
    output_refusal : (x : Refusal) → (output_of form (in_form form s) buffer).answer ≡ Err x → s ≡ Err x
    unfolding output_of
    output_refusal x e = let small = λ (p : Policy) (r : s ≡ Ok p). image_small p (keeps p r) in grind (arith, small)

  module _ (text buffer : List ℕ) (room : length buffer ≡ size_limit) where
    pub compiled_refusal : (x : Refusal) → (compiled form text buffer).answer ≡ Err x → read_text form text ≡ Err x
    unfolding compiled
    compiled_refusal = output_refusal (read_text form text) (accepted_acceptable form text) buffer room

    pub compiled_read : (size : ℕ) → (compiled form text buffer).answer ≡ Ok size → Read form (read_text form text) (compiled form text buffer).buffer size
    compiled_read size e = let w = image_written form text buffer size e in record { policy = w.policy; read = result_laws.known (read_text form text) w.policy w.read; image = w.image }

  module _ (maker site buffer : List ℕ) (room : length buffer ≡ size_limit) where
    pub texts_refusal : (x : Refusal) → (compiled_texts form maker site buffer).answer ≡ Err x → read_texts form maker site ≡ Err x
    unfolding compiled_texts
    texts_refusal = output_refusal (read_texts form maker site) (texts_acceptable form maker site) buffer room

    pub texts_read_is : (size : ℕ) → (compiled_texts form maker site buffer).answer ≡ Ok size → Read form (read_texts form maker site) (compiled_texts form maker site buffer).buffer size
    texts_read_is size e = let w = texts_written form maker site buffer size e in record { policy = w.policy; read = result_laws.known (read_texts form maker site) w.policy w.read; image = w.image }
