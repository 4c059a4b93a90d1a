-- The text that is written from an image compiles to that image, and tells the policies apart.
use Rattle.std.proofs.Common.{ℕ, ◌≤◌, true, List, ◌++◌, ◌↔◌, ◌≡◌, refl, sym, ap, ◌∙◌, arith, length, drop, Ok, Option, Some}
use Rattle.policy.specs.Limits.{Acceptable}
use Rattle.policy.specs.Policy.{Policy}
use Rattle.rule_text.specs.Text.{policy_of, policy_of_texts}
use Rattle.word.proofs.WordLaws.{bytes_below}
use Rattle.word.specs.Word.{Bytes, words_of}
use Rattle.layout.specs.Layout.{known_form, image_words, image_of}
use Rattle.image.specs.Check.{form_byte}
use Rattle.image.specs.Held.{policy_in}
use Rattle.exactness.proofs.Exact.{held_acceptable, held_image, held_form, image_taken, image_holds}
use Rattle.printer.proofs.Longest.{longest_reached}
use Rattle.printer.proofs.Printing.{text_read_is, text_injective}
use Rattle.printer.specs.Printed.{longest_text_for, text_of}
use Rattle.codegen.proofs.Compilation.{text_delivered}
use Rattle.codegen.specs.Compile.{compiled}
use Rattle.decompile.proofs.Decompilation.{text_written, never_short}
use Rattle.guarantees.proofs.Agreement.{ImageOf, image_of_text, image_of_texts}
use Rattle.guarantees.proofs.Exactness.{printed_compiles}
use Rattle.guarantees.specs.Claims.{CompilesTo, TextsCompileTo, DecompilesTo}

-- the text is that of the policy which the image holds, an acceptable one whose image it is
record TextOfImage (image text : List ℕ) : Type 0 where
  pub same : text ≡ text_of (policy_in image)
  pub acceptable : Acceptable (form_byte (words_of image)) (policy_in image)
  pub form_known : known_form (form_byte (words_of image)) ≡ true
  pub again : image_of (form_byte (words_of image)) (policy_in image) ≡ image

text_of_image : (image text : List ℕ) → Bytes image → DecompilesTo image text → TextOfImage image text
text_of_image image text bounded d =
    let w = text_written image d.buffer bounded d.size d.accepted in
    record {
      same = sym d.written ∙ w.text;
      acceptable = held_acceptable image bounded w.contents w.taken;
      form_known = held_form image bounded w.contents w.taken;
      again = held_image image bounded w.contents w.taken;
    }

-- compiling the written text to the image's form yields the image, byte for byte and nothing else, in every buffer that has room for it
pub text_recompiles : (image text : List ℕ) → Bytes image → DecompilesTo image text → (buffer : List ℕ) → length image ≤ length buffer
    → ((compiled (form_byte (words_of image)) text buffer).answer ≡ Ok (length image)) × ((compiled (form_byte (words_of image)) text buffer).buffer ≡ image ++ drop (length image) buffer)
text_recompiles image text bounded d buffer room =
    let t = text_of_image image text bounded d in
    let p : Policy = policy_in image in
    let form : ℕ = form_byte (words_of image) in
    rw (t.same, text_delivered form (text_of p) buffer t.form_known p (text_read_is form p t.acceptable) (rw t.again room), t.again) (refl, refl)

-- the written text of the image of what has this policy is that policy's
record TextOf (known : Option Policy) (written : List ℕ) : Type 0 where
  pub policy : Policy
  pub read : known ≡ Some policy
  pub form : ℕ
  pub acceptable : Acceptable form policy
  pub same : written ≡ text_of policy

pub image_bytes : (form : ℕ) (p : Policy) → Bytes (image_of form p)
unfolding image_of
image_bytes form p = bytes_below (image_words form p)

text_of_known : (form : ℕ) (known : Option Policy) (image written : List ℕ) → ImageOf form known image → DecompilesTo image written → TextOf known written
text_of_known form known image written i d =
    let bounded : Bytes image = rw i.same (image_bytes form i.policy) in
    let holds : policy_in image ≡ i.policy = ap policy_in i.same ∙ image_holds form i.form_known i.policy i.acceptable in
    record { policy = i.policy; read = i.read; form = form; acceptable = i.acceptable; same = (text_of_image image written bounded d).same ∙ ap text_of holds }

same_restored : (known known' : Option Policy) (u v : List ℕ) → TextOf known u → TextOf known' v → (u ≡ v) ↔ (known ≡ known')
same_restored known known' u v a b = grind (arith, text_injective)

-- two accepted texts give equal written texts exactly if they have the same rules in the same order and the same constraints in
-- theirs, in whichever forms they were compiled
pub same_texts : (form form' : ℕ) (s t i j u v : List ℕ) → CompilesTo form s i → CompilesTo form' t j → DecompilesTo i u → DecompilesTo j v → (u ≡ v) ↔ (policy_of form s ≡ policy_of form' t)
same_texts form form' s t i j u v c d f g =
    same_restored (policy_of form s) (policy_of form' t) u v (text_of_known form (policy_of form s) i u (image_of_text form s i c) f) (text_of_known form' (policy_of form' t) j v (image_of_text form' t j d) g)

-- the same of two pairs of texts
pub pairs_same_texts : (form form' : ℕ) (maker site maker' site' i j u v : List ℕ) → TextsCompileTo form maker site i → TextsCompileTo form' maker' site' j → DecompilesTo i u → DecompilesTo j v
    → (u ≡ v) ↔ (policy_of_texts form maker site ≡ policy_of_texts form' maker' site')
pairs_same_texts form form' maker site maker' site' i j u v c d f g =
    same_restored (policy_of_texts form maker site) (policy_of_texts form' maker' site') u v
    (text_of_known form (policy_of_texts form maker site) i u (image_of_texts form maker site i c) f)
    (text_of_known form' (policy_of_texts form' maker' site') j v (image_of_texts form' maker' site' j d) g)

-- in each form some accepted text compiles to an image whose written text has the most bytes
pub bound_reached : (form : ℕ) → known_form form ≡ true → (text : List ℕ) × ((image : List ℕ) × ((written : List ℕ) × (CompilesTo form text image × (DecompilesTo image written × (length written ≡ longest_text_for form)))))
bound_reached form known =
    let p : Policy = (longest_reached form).0 in
    let ok : Acceptable form p = (longest_reached form).1.0 in
    let long : length (text_of p) ≡ longest_text_for form = (longest_reached form).1.1 in
    let image : List ℕ = image_of form p in
    let holds : policy_in image ≡ p = image_holds form known p ok in
    let printed = never_short image (text_of p) _ (image_taken form known p ok) (image_bytes form p) (omega arith) in
    let w = text_written image (text_of p) (image_bytes form p) _ printed in
    (text_of p, (image, (text_of p, (printed_compiles form known p ok, (record { buffer = text_of p; size = _; accepted = printed; written = w.text ∙ ap text_of holds }, long)))))
