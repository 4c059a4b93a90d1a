-- The buffers of the program are long enough: of each text 32,769 bytes, of an answer 32,802, of a refusal 64.
use Rattle.std.proofs.Common.{ℕ, ◌^◌, ◌≤◌, ◌<◌, List, ◌≡◌, refl, sym, ap, ap₂, ◌∙◌, arith, take_all, length, take, subst, Option, Some, None, Result, Ok, Err}
use Rattle.policy.proofs.ResultLaws.{and_then_ok, in_text_ok}
use Rattle.policy.specs.Fault.{in_text}
use Rattle.policy.specs.Policy.{Policy}
use Rattle.policy.specs.declared.fault.Refusal.{Refusal}
use Rattle.policy.specs.declared.fault.Source.{Source}
use Rattle.lexer.specs.Byte.{bytes}
use Rattle.lexer.specs.Lines.{lines_of}
use Rattle.codegen.specs.Compile.{newest_form}
use Rattle.rule_text.proofs.ReadLaws.{behind_read}
use Rattle.rule_text.specs.Text.{empty_policy, read_text_behind, read_text, read_texts, text_limit}
use Rattle.acceptance.proofs.Cut.{texts_cut}
use Rattle.acceptance.proofs.Locations.{locations_small}
use Rattle.explanation.proofs.SizeLaws.{said_size, said_size_on}
use Rattle.explanation.specs.Part.{of_maker, of_site}
use Rattle.explanation.specs.Why.{Explanation, not_proposed, accepted_by, cancelled_by}
use Rattle.output.specs.Buffer.{appended, behind}
use Rattle.output.specs.Sink.{advanced}
use Rattle.output.proofs.RoomLaws.{put_take}
use Rattle.report.proofs.LengthLaws.{texts_refusal_short, not_proposed_short, not_explained_short, shown_short}
use Rattle.report.specs.Report.{texts_refusal_line}
use Rattle.questions.specs.Steps.Answer.{answer_on, question_line}
use Rattle.questions.specs.Answered.{word_of, epoch_part, quoted_line, explained_line, answers_on, answers_printed}
use Rattle.questions.proofs.LeftLaws.{Compiled, line_answered}
use Rattle.questions.specs.Steps.Held.{asked_with, matter, Short}
use Rattle.questions.specs.Steps.Left.{answer_in}
use Rattle.questions.specs.declared.names.Asked.{Asked}
use Rattle.questions.specs.declared.names.Names.{Names}
use Rattle.questions.specs.Steps.Sizes.{answer_size, text_held}

-- ---- texts

module _ (maker site : List ℕ) where
  -- texts that are accepted are not too long
  pub accepted-short : {p : Policy} → read_texts newest_form maker site ≡ Ok p → (length maker ≤ text_limit) × (length site ≤ text_limit)
  unfolding read_texts read_text
  accepted-short {p} e =
      let k = and_then_ok (λ (a : Policy). in_text Source.Site (read_text_behind newest_form a site)) (read_text newest_form maker) p e in
      let m = in_text_ok Source.Maker (read_text_behind newest_form empty_policy maker) k.0 k.1 in
      let s = in_text_ok Source.Site (read_text_behind newest_form k.0 site) p k.2 in
      ((behind_read newest_form empty_policy maker k.0 m).0, (behind_read newest_form k.0 site p s).0)

  -- of a text over its length 32,769 bytes are enough, for all that depends on refused texts by their refusal alone
  module _ (first second : List ℕ) (m : first ≡ take text_held maker) (s : second ≡ take text_held site) where
    pub cut_texts : (P : Result Policy Refusal → List ℕ → List ℕ → Type 0) → ((x : Refusal) → P (Err x) first second → P (Err x) maker site)
        → P (read_texts newest_form first second) first second → P (read_texts newest_form maker site) maker site
    cut_texts P refused h = go (read_texts newest_form maker site) refl (subst (λ r. P r first second) (ap₂ (read_texts newest_form) m s ∙ texts_cut newest_form maker site) h)
      where
        go : (r : Result Policy Refusal) → read_texts newest_form maker site ≡ r → P r first second → P r maker site
        go (Ok p) e k =
            let short = accepted-short e in
            subst (P (Ok p) maker) (s ∙ take_all text_held site (omega arith)) (subst (λ l. P (Ok p) l second) (m ∙ take_all text_held maker (omega arith)) k)
        go (Err x) e k = refused x k

  pub answers_cut : (input : List ℕ) → answers_printed (take text_held maker) (take text_held site) input ≡ answers_printed maker site input
  unfolding answers_printed answers_on
  answers_cut input =
      cut_texts (take text_held maker) (take text_held site) refl refl (λ r first second. answers_printed (take text_held maker) (take text_held site) input ≡ answers_on first second r (lines_of input)) (λ x h. h) refl

  -- ---- a refusal

  pub refusal_whole : (x : Refusal) → read_texts newest_form maker site ≡ Err x → (out after : List ℕ) (end : ℕ) → 64 ≤ length out
      → (end ≡ behind out 0 (texts_refusal_line x)) × (after ≡ appended out 0 (texts_refusal_line x)) → (input : List ℕ) → take end after ≡ answers_printed maker site input
  unfolding answers_printed answers_on
  refusal_whole x e out after end room p input =
      put_take out 0 (texts_refusal_line x) after end (omega (arith, texts_refusal_short x (omega (arith, locations_small newest_form maker site x e)))) p
      ∙ sym (ap (λ (s : Result Policy Refusal). answers_on maker site s (lines_of input)) e)

pub refusal_stored : (x : Refusal) (out : List ℕ) → x.location < 2 ^ 64 → 64 ≤ length out
    → take (advanced 0 (length (texts_refusal_line x)) (length out)) (appended out 0 (texts_refusal_line x)) ≡ texts_refusal_line x
unfolding behind
refusal_stored x out small room =
    let line = texts_refusal_line x in
    let end : advanced 0 (length line) (length out) ≡ behind out 0 line = omega arith in
    rw end (put_take out 0 line (appended out 0 line) (behind out 0 line) (omega (arith, texts_refusal_short x small)) (refl, refl))

-- ---- an answer

answer_short : (n : ℕ) → n < 2 ^ 64 → (x : Result Explanation Refusal) → said_size x ≤ text_limit → length (explained_line n x) ≤ answer_size
unfolding explained_line quoted_line bytes
answer_short n h (Err r) k = omega (arith, not_explained_short n r.fault h)
answer_short n h (Ok not_proposed) k = omega (arith, not_proposed_short n h)
answer_short n h (Ok (accepted_by (of_maker x))) k = omega (arith, shown_short n (bytes " accepted ") Source.Maker x.bytes h, k)
answer_short n h (Ok (accepted_by (of_site x))) k = omega (arith, shown_short n (bytes " accepted ") Source.Site x.bytes h, k)
answer_short n h (Ok (cancelled_by (of_maker x))) k = omega (arith, shown_short n (bytes " cancelled ") Source.Maker x.bytes h, k)
answer_short n h (Ok (cancelled_by (of_site x))) k = omega (arith, shown_short n (bytes " cancelled ") Source.Site x.bytes h, k)

module _ (maker site : List ℕ) (m : length maker ≤ text_limit) (s : length site ≤ text_limit) where
  answered_size : (image epoch : List ℕ) (o : Option Asked) → said_size (answer_on maker site image o epoch) ≤ text_limit
  unfolding answer_on
  answered_size image epoch (Some a) = said_size_on maker site text_limit m s a.pending epoch a.action image
  answered_size image epoch None = omega arith

  -- the answer to a question has at most 32,802 bytes
  pub question_short : (image : List ℕ) (names : Names) (line : List ℕ) (n : ℕ) → n < 2 ^ 64 → length (question_line maker site image n names line) ≤ answer_size
  unfolding question_line
  question_short image names line n h = answer_short n h _ (answered_size image (epoch_part line) (asked_with names (word_of line)))

-- that of both texts too
pub answered_short : (maker site image : List ℕ) → Compiled image (read_texts newest_form maker site) → (names : Names) (line : List ℕ) (names' : Names) (line' : List ℕ) → Short line → matter names line ≡ matter names' line'
    → (n : ℕ) → n < 2 ^ 64 → length (explained_line n (answer_in maker site names' line')) ≤ answer_size
answered_short maker site image k names line names' line' short same n h =
    let short' = accepted-short maker site k.read in
    subst (λ l. length l ≤ answer_size) (line_answered maker site image k n names line names' line' short same) (question_short maker site short'.0 short'.1 image names line n h)
