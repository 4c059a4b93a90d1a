-- What holds of every decompilation: what it has written, how that is read back, and when it is refused.
use Rattle.std.proofs.Common.{ℕ, ◌≤◌, ◌<◌, List, ◌≡◌, refl, sym, ap, ◌∙◌, arith, length, Result, Ok, Err}
use Rattle.std.proofs.lemmas.Bool.Decides.{nat_tests}
use Rattle.policy.proofs.FillLaws.{fill_delivered, fill_unchanged}
use Rattle.policy.specs.Fault.{refusal}
use Rattle.policy.specs.declared.fault.Fault.{Fault}
use Rattle.policy.specs.declared.fault.Refusal.{Refusal}
use Rattle.word.specs.Word.{Bytes}
use Rattle.image.specs.Held.{policy_in}
use Rattle.image.specs.Load.{load, Contents}
use Rattle.rule_text.specs.Text.{read_text}
use Rattle.printer.proofs.Printing.{text_length_for, text_read_is}
use Rattle.printer.specs.Printed.{longest_text_for, text_of}
use Rattle.decompile.proofs.TextLaws.{taken_text}
use Rattle.decompile.specs.Decompile.{output_of, decompiled}
use Rattle.decompile.specs.Written.{TextWritten}

module _ (image buffer : List ℕ) where
  -- where the decompiler answers a size, it has written a text of that size
  pub text_written : Bytes image → (size : ℕ) → (decompiled image buffer).answer ≡ Ok size → TextWritten image buffer size
  unfolding decompiled output_of
  text_written bounded size e = go (load image) refl e
    where
      go : (l : Result Contents Refusal) → load image ≡ l → (output_of l (text_of (policy_in image)) buffer).answer ≡ Ok size → TextWritten image buffer size
      go (Ok c) q k =
          let d = fill_delivered (text_of (policy_in image)) buffer size k in
          let most = text_length_for c.form (policy_in image) (taken_text image c (sym q)).acceptable in
          record { contents = c; taken = q; text = rw q d.front; long = rw q (ap length d.front ∙ d.long); behind = rw q d.behind; largest = omega (arith, d.long, most) }
      go (Err r) q k = cc

  -- ---- when it is refused, and that a refusal changes no byte of the buffer

  -- 7 to 11, at the word, whatever room there is
  pub image_refused : (r : Refusal) → load image ≡ Err r → (decompiled image buffer).answer ≡ Err r
  unfolding decompiled output_of
  image_refused r e = rw e

  module _ (contents : Contents) (taken : load image ≡ Ok contents) where
    -- 15 where the text has more bytes than the buffer
    pub room_refused : length buffer < length (text_of (policy_in image)) → (decompiled image buffer).answer ≡ Err (refusal Fault.BufferTooSmall 0)
    unfolding decompiled output_of
    room_refused h = grind (arith, nat_tests, taken)

    -- every other image is printed
    pub image_printed : length (text_of (policy_in image)) ≤ length buffer → (decompiled image buffer).answer ≡ Ok (length (text_of (policy_in image)))
    unfolding decompiled output_of
    image_printed h = grind (arith, nat_tests, taken)

    -- and so is every image, where the buffer has room for the longest text for its form
    pub never_short : Bytes image → longest_text_for contents.form ≤ length buffer → (decompiled image buffer).answer ≡ Ok (length (text_of (policy_in image)))
    never_short bounded h = image_printed (omega (arith, text_length_for contents.form (policy_in image) (taken_text image contents (sym taken)).acceptable))

    -- the text, read for the form of the image, has the policy that the image holds
    pub text_read_back : read_text contents.form (text_of (policy_in image)) ≡ Ok (policy_in image)
    text_read_back = text_read_is contents.form (policy_in image) (taken_text image contents (sym taken)).acceptable

  pub refused_unchanged : (r : Refusal) → (decompiled image buffer).answer ≡ Err r → (decompiled image buffer).buffer ≡ buffer
  unfolding decompiled output_of
  refused_unchanged r e = grind (arith, fill_unchanged (text_of (policy_in image)) buffer r)
