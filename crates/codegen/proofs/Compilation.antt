-- What a compilation has done: the statements about `compiled` and `compiled_texts`.
use Rattle.std.proofs.Common.{Result, Ok, Err, Option, ℕ, ◌≤◌, ◌<◌, true, false, List, ◌↔◌, ◌≡◌, refl, sym, ap, ◌∙◌, arith, le-leb, length}
use Rattle.std.specs.Result.{result_ok}
use Rattle.std.proofs.lemmas.Bool.{lt-leb}
use Rattle.layout.proofs.CheckLaws.{form_below}
use Rattle.policy.proofs.FillLaws.{fill_delivered}
use Rattle.policy.specs.Fill.{Filled, refuse, deliver, fill}
use Rattle.policy.specs.Fault.{refusal}
use Rattle.policy.specs.Limits.{Acceptable}
use Rattle.policy.specs.Policy.{Policy}
use Rattle.policy.specs.declared.fault.Fault.{Fault}
use Rattle.policy.specs.declared.fault.Refusal.{Refusal}
use Rattle.exactness.proofs.Exact.{image_taken, image_holds, image_size}
use Rattle.layout.specs.Layout.{known_form, image_of}
use Rattle.image.specs.Load.{load}
use Rattle.image.specs.Check.{well_sized}
use Rattle.image.specs.Held.{policy_in}
use Rattle.acceptance.proofs.Accepted.{accepted_acceptable, texts_acceptable}
use Rattle.rule_text.specs.Text.{read_text, read_texts, policy_of, policy_of_texts}
use Rattle.codegen.specs.Compile.{in_form, output_of, compiled, compiled_texts}
use Rattle.codegen.specs.Written.{written_by, WrittenBy, written_in, ImageWritten, TextsImageWritten}

-- ---- of what was read, be it a text or two

module _ (form : ℕ) (s : Result Policy Refusal) (keeps : (p : Policy) → s ≡ Ok p → Acceptable form p) (buffer : List ℕ) where
  abbrev made : Filled
  made = output_of form (in_form form s) buffer

  filled : (size : ℕ) → made.answer ≡ Ok size → (p : Policy) × (s ≡ Ok p) × (known_form form ≡ true) × (made ≡ fill (image_of form p) buffer)
  unfolding output_of
  filled size e = grind arith

  output_written : (size : ℕ) → made.answer ≡ Ok size → WrittenBy form (result_ok s) made buffer size
  unfolding well_sized
  output_written size e =
      let f = filled size e in
      let p : Policy = f.0 in
      let ok = keeps p f.1 in
      let d = fill_delivered (image_of form p) buffer size (ap (λ (o : Filled). o.answer) (sym f.3) ∙ e) in
      let w : written_by size made ≡ image_of form p = ap (written_by size) f.3 ∙ d.front in
      record {
        form_known = f.2;
        policy = p;
        read = ap result_ok f.1;
        acceptable = ok;
        image = w;
        long = ap length w ∙ d.long;
        behind = rw f.3 d.behind;
        largest = grind (arith, d.long, image_size form f.2 p ok);
        taken = ap load w ∙ image_taken form f.2 p ok;
        holds = ap policy_in w ∙ image_holds form f.2 p ok;
        again = ap (λ (b : List ℕ). image_of form (policy_in b)) w ∙ ap (image_of form) (image_holds form f.2 p ok) ∙ sym w;
      }

-- ---- a text

module _ (form : ℕ) (text buffer : List ℕ) where
  -- where the compiler answers a size, it has written an image of that size
  pub image_written : (size : ℕ) → (compiled form text buffer).answer ≡ Ok size → ImageWritten form text buffer size
  unfolding compiled
  image_written size e = output_written form (read_text form text) (accepted_acceptable form text) buffer size e

  -- ---- when it is refused, and that a refusal changes no byte of the buffer

  -- 8 where the form is unknown, whatever the text and the room
  pub form_refused : known_form form ≡ false → compiled form text buffer ≡ refuse (refusal Fault.ImageForm 0) buffer
  unfolding compiled output_of
  form_refused e = rw e

  module _ (known : known_form form ≡ true) where
    -- 1 to 6, at the line, whatever room there is
    pub text_refused : (r : Refusal) → read_text form text ≡ Err r → (compiled form text buffer).answer ≡ Err r
    unfolding compiled output_of
    text_refused r e = rw (known, e)

    module _ (p : Policy) (r : read_text form text ≡ Ok p) where
      -- 15 where the image has more bytes than the buffer
      pub room_refused : length buffer < length (image_of form p) → (compiled form text buffer).answer ≡ Err (refusal Fault.BufferTooSmall 0)
      unfolding compiled output_of
      room_refused h = rw (known, r, lt-leb (length (image_of form p)) (length buffer) h)

      -- every other text is accepted, and its image delivered
      pub text_delivered : length (image_of form p) ≤ length buffer → compiled form text buffer ≡ deliver (image_of form p) buffer
      unfolding compiled output_of
      text_delivered h = rw (known, r, le-leb (length (image_of form p)) (length buffer) h)

      pub text_compiled : length (image_of form p) ≤ length buffer → (compiled form text buffer).answer ≡ Ok (length (image_of form p))
      text_compiled h = ap (λ (o : Filled). o.answer) (text_delivered h)

  pub refused_unchanged : (r : Refusal) → (compiled form text buffer).answer ≡ Err r → (compiled form text buffer).buffer ≡ buffer
  unfolding compiled output_of
  refused_unchanged r e = grind arith

-- ---- two texts as one

module _ (form : ℕ) (maker site buffer : List ℕ) where
  pub texts_written : (size : ℕ) → (compiled_texts form maker site buffer).answer ≡ Ok size → TextsImageWritten form maker site buffer size
  unfolding compiled_texts
  texts_written size e = output_written form (read_texts form maker site) (texts_acceptable form maker site) buffer size e

  pub texts_form_refused : known_form form ≡ false → compiled_texts form maker site buffer ≡ refuse (refusal Fault.ImageForm 0) buffer
  unfolding compiled_texts output_of
  texts_form_refused e = rw e

  module _ (known : known_form form ≡ true) where
    pub texts_refused : (r : Refusal) → read_texts form maker site ≡ Err r → (compiled_texts form maker site buffer).answer ≡ Err r
    unfolding compiled_texts output_of
    texts_refused r e = rw (known, e)

    module _ (p : Policy) (r : read_texts form maker site ≡ Ok p) where
      pub texts_short : length buffer < length (image_of form p) → (compiled_texts form maker site buffer).answer ≡ Err (refusal Fault.BufferTooSmall 0)
      unfolding compiled_texts output_of
      texts_short h = rw (known, r, lt-leb (length (image_of form p)) (length buffer) h)

      pub texts_delivered : length (image_of form p) ≤ length buffer → compiled_texts form maker site buffer ≡ deliver (image_of form p) buffer
      unfolding compiled_texts output_of
      texts_delivered h = rw (known, r, le-leb (length (image_of form p)) (length buffer) h)

  pub texts_unchanged : (r : Refusal) → (compiled_texts form maker site buffer).answer ≡ Err r → (compiled_texts form maker site buffer).buffer ≡ buffer
  unfolding compiled_texts output_of
  texts_unchanged r e = grind arith

-- ---- what an image keeps of a text: its rules in their order and its constraints in theirs, and nothing else

same_written : {form : ℕ} {known known' : Option Policy} {made made' : Filled} {out out' : List ℕ} {m n : ℕ} → WrittenBy form known made out m → WrittenBy form known' made' out' n
    → (written_by m made ≡ written_by n made') ↔ (known ≡ known')
same_written a b = (λ k. cc, λ k. cc)

pub same_images : (form : ℕ) (s t out out' : List ℕ) (m n : ℕ) → (compiled form s out).answer ≡ Ok m → (compiled form t out').answer ≡ Ok n
    → (written_in form m s out ≡ written_in form n t out') ↔ (policy_of form s ≡ policy_of form t)
same_images form s t out out' m n d e = same_written (image_written form s out m d) (image_written form t out' n e)

pub pairs_same_images : (form : ℕ) (maker site maker' site' out out' : List ℕ) (m n : ℕ) → (compiled_texts form maker site out).answer ≡ Ok m → (compiled_texts form maker' site' out').answer ≡ Ok n
    → (written_by m (compiled_texts form maker site out) ≡ written_by n (compiled_texts form maker' site' out')) ↔ (policy_of_texts form maker site ≡ policy_of_texts form maker' site')
pairs_same_images form maker site maker' site' out out' m n d e = same_written (texts_written form maker site out m d) (texts_written form maker' site' out' n e)

-- ---- forms that no byte holds

module _ (form : ℕ) (over : 256 ≤ form) where
  -- an unknown form is as good as another
  over_byte : known_form form ≡ known_form 0
  unfolding known_form
  over_byte = grind (arith, form_below form)

  pub over_compiled : (text buffer : List ℕ) → compiled 0 text buffer ≡ compiled form text buffer
  unfolding compiled known_form
  over_compiled text buffer = form_refused 0 text buffer refl ∙ sym (form_refused form text buffer over_byte)

  pub over_texts_compiled : (maker site buffer : List ℕ) → compiled_texts 0 maker site buffer ≡ compiled_texts form maker site buffer
  unfolding known_form
  over_texts_compiled maker site buffer = texts_form_refused 0 maker site buffer refl ∙ sym (texts_form_refused form maker site buffer over_byte)
