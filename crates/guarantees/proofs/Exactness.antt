-- The loader takes exactly the images that some accepted text compiles to, and when it refuses under 11.
use Rattle.policy.specs.Line.{PolicyLine}
use Rattle.std.proofs.Common.{ℕ, true, List, [], ◌∷◌, ◌↔◌, ◌≡◌, refl, sym, ap, ◌∙◌, subst, arith, ltb-true, length, Result, Ok, Err, Some}
use Rattle.std.proofs.lemmas.Bool.{and_parts}
use Rattle.policy.specs.Fault.{refusal}
use Rattle.policy.specs.Limits.{Acceptable}
use Rattle.std.specs.List.{list_all}
use Rattle.policy.specs.Policy.{Policy}
use Rattle.policy.specs.declared.fault.Fault.{Fault}
use Rattle.policy.specs.declared.fault.Refusal.{Refusal}
use Rattle.exactness.proofs.Exact.{exactly_images, image_refused_exactly, image_taken, took, held_acceptable, held_image, held_form, Answered, early, weighted, late, answered}
use Rattle.exactness.specs.Exact.{contents_of, Weighed}
use Rattle.exactness.specs.ImageFault.{ImageFault}
use Rattle.layout.specs.Layout.{known_form, image_of}
use Rattle.image.specs.Check.{form_byte}
use Rattle.image.specs.Held.{policy_in}
use Rattle.image.specs.Lines.{rule_part, constraint_part, rule_lines, constraint_lines}
use Rattle.image.specs.Load.{body_answer, load_words, load, Contents}
use Rattle.word.specs.Word.{Bytes, words_of}
use Rattle.codegen.proofs.Compilation.{text_compiled, image_written}
use Rattle.printer.proofs.Printing.{text_read_is, text_policy, text_ascii}
use Rattle.printer.proofs.SplitLaws.{ascii}
use Rattle.printer.specs.Printed.{text_of}
use Rattle.guarantees.proofs.Agreement.{image_of_text}
use Rattle.guarantees.specs.Claims.{CompilesTo, SomeText}

ascii_bytes : (s : List ℕ) → list_all ascii s ≡ true → Bytes s
ascii_bytes [] h i = omega arith
ascii_bytes (b ∷ s) h ℕ.zero = let l = ltb-true b 128 (and_parts (ascii b) (list_all ascii s) h).0 in omega arith
ascii_bytes (b ∷ s) h (ℕ.suc i) = ascii_bytes s (and_parts (ascii b) (list_all ascii s) h).1 i

-- the text printed from a policy compiles to the policy's image, in each form
pub printed_compiles : (form : ℕ) → known_form form ≡ true → (p : Policy) → Acceptable form p → CompilesTo form (text_of p) (image_of form p)
printed_compiles form known p ok =
    let image : List ℕ = image_of form p in
    let e = text_compiled form (text_of p) image known p (text_read_is form p ok) (omega arith) in
    let w = image_written form (text_of p) image (length image) e in
    let q : Some p ≡ Some w.policy = sym (text_policy form p ok) ∙ w.read in
    let same : p ≡ w.policy = cc in
    record { buffer = image; size = length image; accepted = e; written = w.image ∙ ap (image_of form) (sym same) }

-- the loader takes a byte sequence exactly if some accepted text compiles to it
pub taken_exactly : (bytes : List ℕ) → Bytes bytes → ((contents : Contents) × (load bytes ≡ Ok contents)) ↔ SomeText bytes
taken_exactly bytes bounded = (there, back)
  where
    there : (contents : Contents) × (load bytes ≡ Ok contents) → SomeText bytes
    there x =
        let i = (exactly_images bytes bounded).0 x in
        record {
          form = i.form;
          text = text_of i.policy;
          bytes = ascii_bytes (text_of i.policy) (text_ascii i.policy);
          compiles = subst (CompilesTo i.form (text_of i.policy)) i.same (printed_compiles i.form i.known i.policy i.acceptable);
        }

    back : SomeText bytes → (contents : Contents) × (load bytes ≡ Ok contents)
    back x =
        let t = image_of_text x.form x.text bytes x.compiles in
        (contents_of x.form t.policy, ap load t.same ∙ image_taken x.form t.form_known t.policy t.acceptable)

-- compiling what was loaded: the text printed from the policy that a taken image holds compiles to that image, in its form
pub loaded_compiles : (bytes : List ℕ) → Bytes bytes → (contents : Contents) → load bytes ≡ Ok contents → CompilesTo contents.form (text_of (policy_in bytes)) bytes
loaded_compiles bytes bounded contents taken =
    let form = form_byte (words_of bytes) in
    rw (took bytes contents taken).form_is
    (subst (CompilesTo form (text_of (policy_in bytes))) (held_image bytes bounded contents taken)
    (printed_compiles form (held_form bytes bounded contents taken) (policy_in bytes) (held_acceptable bytes bounded contents taken)))

-- fault 11 is given exactly if the checks 7 to 10 and 16 pass and no accepted text compiles to the bytes
pub body_exactly : (bytes : List ℕ) → Bytes bytes → ((location : ℕ) × (load bytes ≡ Err (refusal Fault.ImageBody location))) ↔ (Weighed bytes × ¬ SomeText bytes)
unfolding body_answer load load_words
body_exactly bytes bounded = (there, back)
  where
    checked : (location : ℕ) → load bytes ≡ Err (refusal Fault.ImageBody location) → Answered bytes → Weighed bytes
    checked location e (late c q) = c
    checked location e (early r) = absurd (grind (arith, r.refused, r.upto))
    checked location e (weighted c w q) = absurd (grind arith)

    body : (rs cs : Result (List PolicyLine) ℕ) → load bytes ≡ body_answer (form_byte (words_of bytes)) (rule_part (words_of bytes)) (constraint_part (words_of bytes)) rs cs → ¬ SomeText bytes
        → (location : ℕ) × (load bytes ≡ Err (refusal Fault.ImageBody location))
    body (Ok rs) (Ok cs) e n = absurd (n ((taken_exactly bytes bounded).0 (_, e)))
    body (Ok rs) (Err at) e n = (at, e)
    body (Err at) cs e n = (at, e)

    there : (location : ℕ) × (load bytes ≡ Err (refusal Fault.ImageBody location)) → Weighed bytes × ¬ SomeText bytes
    there x = (checked x.0 x.1 (answered bytes), λ s. cc (x.1, ((taken_exactly bytes bounded).1 s).1))

    back : Weighed bytes × ¬ SomeText bytes → (location : ℕ) × (load bytes ≡ Err (refusal Fault.ImageBody location))
    back x = body (rule_lines (words_of bytes)) (constraint_lines (words_of bytes)) (rw (x.0.checked.size, x.0.checked.form, x.0.checked.count, x.0.checked.check, x.0.weights)) x.1

-- what has no fault is taken, and so some text compiles to it
pub faulty_exactly : (bytes : List ℕ) → Bytes bytes → ((r : Refusal) × ImageFault bytes r) ↔ (¬ SomeText bytes)
faulty_exactly bytes bounded = (there, λ n. back n (load bytes) refl)
  where
    there : (r : Refusal) × ImageFault bytes r → ¬ SomeText bytes
    there x s = cc ((image_refused_exactly bytes x.0).1 x.1, ((taken_exactly bytes bounded).1 s).1)

    back : ¬ SomeText bytes → (l : Result Contents Refusal) → load bytes ≡ l → (r : Refusal) × ImageFault bytes r
    back n (Err r) e = (r, (image_refused_exactly bytes r).0 e)
    back n (Ok c) e = absurd (n ((taken_exactly bytes bounded).0 (c, e)))
