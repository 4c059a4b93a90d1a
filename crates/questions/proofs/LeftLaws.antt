-- What a question is answered, and what is answered along the rest of the input.
use Rattle.std.specs.Result.{result_map_both}
use Rattle.std.proofs.Common.{ℕ, ◌≤◌, Bool, true, false, List, [], append-nil, ◌≡◌, refl, sym, ap, ◌∙◌, arith, lt-ltb, length, length-take, take, take_all, cond, ◌∷◌, ◌++◌, ap₂, append_assoc, Option, Some, None, Result, Ok, Err}
use Rattle.policy.specs.Fault.{refusal}
use Rattle.policy.specs.Set.{EventSet}
use Rattle.policy.specs.Policy.{Policy}
use Rattle.policy.specs.Result.{result_and_then}
use Rattle.policy.specs.declared.fault.Fault.{Fault}
use Rattle.policy.specs.declared.fault.Refusal.{Refusal}
use Rattle.epoch_line.specs.Epoch.{read_epoch, epoch_limit}
use Rattle.rule_text.specs.Text.{read_texts}
use Rattle.acceptance.proofs.Accepted.{texts_acceptable}
use Rattle.layout.specs.Layout.{image_of}
use Rattle.codegen.specs.Compile.{newest_form}
use Rattle.explanation.proofs.WhyLaws.{on_image_is}
use Rattle.explanation.specs.Steps.On.{explained_on}
use Rattle.explanation.specs.Why.{on_epoch, explained}
use Rattle.questions.specs.Answered.{word_of, epoch_part, names_in, no_action, explained_line, answer_for, question_answer, answer_lines, answers_on, answers_printed}
use Rattle.questions.specs.Steps.Answer.{answer_on, question_line}
use Rattle.questions.specs.Steps.Held.{asked_in, is_begun, matter, Matter, Alike, Short}
use Rattle.questions.specs.declared.names.Asked.{Asked}
use Rattle.questions.specs.declared.names.Names.{Names}
use Rattle.questions.proofs.NameLaws.{asked_one, asked_first}
use Rattle.questions.specs.Steps.Sizes.{epoch_held}
use Rattle.lexer.specs.Byte.{is_line_end}
use Rattle.lexer.specs.Lines.{lines_of}
use Rattle.lined.specs.Lines as Lined
use Rattle.lined.specs.Lines.{ended_behind, open_behind, ended_lines, open_line, HasNoEnd}
use Rattle.lined.proofs.InputLaws.{all_lines, whole_lines}
use Rattle.lined.proofs.LineLaws.{part_behind}
use Rattle.report.specs.Report.{next_number}
use Rattle.questions.specs.Run.{answers_due}
use Rattle.questions.specs.Steps.Left.{answer_in, no_line, last_line, answers_from, answers_behind}

-- ---- of an epoch line 1,025 bytes are enough

-- of what is the same for all that is so long, as many bytes are enough
cut_same : {A : Type 0} (n : ℕ) (f : List ℕ → A) (x : A) → ((l : List ℕ) → n ≤ length l → f l ≡ x) → (l : List ℕ) → f (take n l) ≡ f l
cut_same n f x h l = grind (arith, h l, h (take n l), length-take n l, take_all n l)

epoch_cut : (e : List ℕ) → read_epoch (take epoch_held e) ≡ read_epoch e
unfolding read_epoch
epoch_cut = cut_same epoch_held read_epoch (Err (refusal Fault.TooLong 0)) (λ e h. rw (lt-ltb epoch_limit (length e) (omega arith)))

none_cut : (e : List ℕ) → no_action (take epoch_held e) ≡ no_action e
unfolding no_action
none_cut = cut_same epoch_held no_action (refusal Fault.TooLong 0) (λ e h. rw (lt-ltb epoch_limit (length e) (omega arith)))

-- lines that are alike ask the same
pub alike_here : (n : Names) (l : List ℕ) (n' : Names) (l' : List ℕ) → Alike n l n' l' → matter n l ≡ matter n' l'
alike_here n l n' l' h = ap (matter n) (sym (append-nil l)) ∙ h [] ∙ ap (matter n') (append-nil l')

module _ (maker site : List ℕ) where
  answer_cut : (o : Option Asked) (e : List ℕ) → answer_for maker site o (take epoch_held e) ≡ answer_for maker site o e
  unfolding answer_for explained
  answer_cut (Some q) e = ap (λ a. result_and_then (λ (p : Policy). on_epoch maker site p q.pending q.action a) (read_texts newest_form maker site)) (epoch_cut e)
  answer_cut None e = ap Err (none_cut e)

  -- so lines that ask the same have the same answer
  pub same_answer : (n : Names) (l : List ℕ) (n' : Names) (l' : List ℕ) → matter n l ≡ matter n' l' → answer_in maker site n l ≡ answer_in maker site n' l'
  unfolding matter
  same_answer n l n' l' h =
      sym (answer_cut (asked_in n (names_in (word_of l))) (epoch_part l)) ∙ ap (λ m. answer_for maker site m.asked m.epoch) h ∙ answer_cut (asked_in n' (names_in (word_of l'))) (epoch_part l')

-- ---- on the image of the texts

pub record Compiled (image : List ℕ) (texts : Result Policy Refusal) : Type 0 where
  pub policy : Policy
  pub read : texts ≡ Ok policy
  pub is : image ≡ image_of newest_form policy

pub compiled_read : (image : List ℕ) (read : Result Policy Refusal) → result_map_both (image_of newest_form) (λ x. x) read ≡ Ok image → Compiled image read
compiled_read image (Ok p) k = record { policy = p; read = refl; is = cc }
compiled_read image (Err x) k = cc

module _ (maker site image : List ℕ) (k : Compiled image (read_texts newest_form maker site)) where
  on_texts : (pending : EventSet) (e : List ℕ) (n : ℕ) → explained_on maker site pending e n image ≡ explained maker site pending e n
  unfolding explained
  on_texts pending e n =
      ap (explained_on maker site pending e n) k.is ∙ on_image_is maker site pending e n k.policy (texts_acceptable newest_form maker site k.policy k.read)
      ∙ sym (ap (result_and_then (λ (p : Policy). on_epoch maker site p pending n (read_epoch e))) k.read)

  answer_is : (o : Option Asked) (e : List ℕ) → answer_on maker site image o e ≡ answer_for maker site o e
  unfolding answer_on answer_for
  answer_is (Some q) e = on_texts q.pending e q.action
  answer_is None e = refl

  pub line_answered : (n : ℕ) (names : Names) (line : List ℕ) (names' : Names) (line' : List ℕ) → Short line → matter names line ≡ matter names' line'
      → question_line maker site image n names line ≡ explained_line n (answer_in maker site names' line')
  unfolding question_line
  line_answered n names line names' line' short h =
      ap (explained_line n)
      (answer_is _ _ ∙ ap (λ a. answer_for maker site a (epoch_part line)) (sym (asked_one names (word_of line) short.one)) ∙ same_answer maker site names line names' line' h)

-- ---- along the rest of the input

module _ (maker site : List ℕ) where
  -- what is answered of the open line is told by what it asks
  abbrev pub Tells : (ℕ → Names → List ℕ → List ℕ) → Type 0
  Tells last = (n : ℕ) (s : Names) (l : List ℕ) (s' : Names) (l' : List ℕ) → matter s l ≡ matter s' l' → last n s l ≡ last n s' l'

  pub tells_none : Tells (no_line maker site)
  tells_none n s l s' l' h = refl

  -- where the input ends
  pub tells_last : Tells (last_line maker site)
  unfolding matter
  tells_last n s l s' l' h = ap₂ (λ (b : Bool) a. cond b (explained_line (next_number n) a) []) (ap (λ (m : Matter). m.begun) h) (same_answer maker site s l s' l' h)

  pub last_told : (n : ℕ) (s : Names) (l l' : List ℕ) (some : Bool) → some ≡ is_begun s l → l' ≡ l → cond some (explained_line (next_number n) (answer_in maker site s l')) [] ≡ last_line maker site n s l
  last_told n s l l' some h e = rw (h, e) refl

  module _ (last : ℕ → Names → List ℕ → List ℕ) (tells : Tells last) where
    same_left : (rest : List ℕ) (n : ℕ) (s : Names) (l : List ℕ) (s' : Names) (l' : List ℕ) → Alike s l s' l' → answers_behind maker site last n s l rest ≡ answers_behind maker site last n s' l' rest
    unfolding answers_from
    same_left [] n s l s' l' h = tells n s l s' l' (alike_here s l s' l' h)
    same_left (b ∷ rest) n s l s' l' h =
        grind (arith, same_left rest n s (l ++ b ∷ []) s' (l' ++ b ∷ []) (λ more. rw (append_assoc l (b ∷ []) more, append_assoc l' (b ∷ []) more) (h (b ∷ more))), same_answer maker site s l s' l' (alike_here s l s' l' h))

    module _ (n : ℕ) (s : Names) (line part : List ℕ) (none : HasNoEnd part) where
      part_answers : (rest : List ℕ) → answers_behind maker site last n s line (part ++ rest) ≡ answers_behind maker site last n s (line ++ part) rest
      part_answers rest = ap (λ (p : List (List ℕ) × List ℕ). answers_from maker site last n s p.0 p.1) (part_behind line part rest none)

      -- part of a line
      pub part_goes : (s' : Names) (line' : List ℕ) → Alike s' line' s (line ++ part) → (rest : List ℕ) → answers_behind maker site last n s line (part ++ rest) ≡ answers_behind maker site last n s' line' rest
      part_goes s' line' h rest = part_answers rest ∙ sym (same_left rest n s' line' s (line ++ part) h)

      -- the end of a line
      pub end_goes : (rest : List ℕ) → answers_behind maker site last n s line ((part ++ 10 ∷ []) ++ rest)
          ≡ explained_line (next_number n) (answer_in maker site s (line ++ part)) ++ answers_behind maker site last (next_number n) Names.Nothing [] rest
      unfolding answers_from
      end_goes rest = ap (answers_behind maker site last n s line) (append_assoc part (10 ∷ []) rest) ∙ part_answers (10 ∷ rest)

-- ---- from the start

pointwise : (f g : List ℕ → List ℕ) → ((bytes : List ℕ) → f bytes ≡ g bytes) → f ≡ g
pointwise f g h = λ i. λ bytes. h bytes i

module _ (maker site : List ℕ) where
  -- a line of which no name has ended is a question
  answer_first : (line : List ℕ) → answer_in maker site Names.Nothing line ≡ question_answer maker site line
  unfolding question_answer
  answer_first line = ap (λ a. answer_for maker site a (epoch_part line)) (asked_first (names_in (word_of line)))

  ends_none : (n : ℕ) (lines : List (List ℕ)) (line : List ℕ) → answers_from maker site (no_line maker site) n Names.Nothing lines line ≡ answer_lines maker site n lines
  unfolding answers_from answer_lines
  ends_none n [] line = refl
  ends_none n (l ∷ lines) line = grind (arith, answer_first l, ends_none (next_number n) lines line)

  ends_last : (n : ℕ) (lines : List (List ℕ)) (line : List ℕ) → answers_from maker site (last_line maker site) n Names.Nothing lines line ≡ answer_lines maker site n (lines ++ Lined.last_line line)
  unfolding answers_from answer_lines
  ends_last n [] [] = refl
  ends_last n [] (b ∷ line) = grind (arith, answer_first (b ∷ line), append-nil)
  ends_last n (l ∷ lines) line = grind (arith, answer_first l, ends_last (next_number n) lines line)

-- what is printed from the start is what is printed for two texts that are accepted
module _ (maker site : List ℕ) (p : Policy) (r : read_texts newest_form maker site ≡ Ok p) where
  started : (lines : List (List ℕ)) → answer_lines maker site 0 lines ≡ answers_on maker site (read_texts newest_form maker site) lines
  unfolding answers_on
  started lines = rw r

  pub starts_answered : answers_behind maker site (last_line maker site) 0 Names.Nothing [] ≡ answers_printed maker site
  unfolding answers_printed
  starts_answered =
      pointwise _ (answers_printed maker site)
      (λ rest. ends_last maker site 0 (ended_lines rest) (open_line rest) ∙ ap (answer_lines maker site 0) (sym (all_lines rest)) ∙ started (lines_of rest))

  pub starts_due : answers_behind maker site (no_line maker site) 0 Names.Nothing [] ≡ answers_due maker site
  unfolding answers_due answers_printed
  starts_due =
      pointwise _ (answers_due maker site)
      (λ rest. ends_none maker site 0 (ended_lines rest) (open_line rest) ∙ ap (answer_lines maker site 0) (sym (whole_lines rest)) ∙ started _)
