-- What a line is answered is what it is by what is written there.
use Rattle.std.proofs.Common.{ℕ, Bool, true, false, List, ◌∷◌, ◌≡◌, refl, ap, ◌∙◌, arith, ◌↔◌, [], Option, Some, None, Result, Ok, Err}
use Rattle.policy.specs.Limits.{in_range, crowded, repeated, allowed, valid}
use Rattle.policy.specs.Line.{PolicyLine}
use Rattle.policy.specs.declared.fault.Fault.{Fault}
use Rattle.lexer.specs.Lines.{tokens_of}
use Rattle.syntax.specs.Grammar.{line_from}
use Rattle.syntax.specs.Judge.{line_for, judge_line, tokens_answer, line_answer}
use Rattle.acceptance.proofs.Accepted.{accepted_valid}
use Rattle.acceptance.proofs.Written.{line_in, line_read}
use Rattle.acceptance.specs.OneLine.{is_skipped, LineSkipped, LineAccepted, LineRefused}
use Rattle.acceptance.specs.Written.{IsWritten}

module _ (form : ℕ) (line : List ℕ) where
  -- what is written is what is read
  written_for : (l : PolicyLine) → IsWritten line l → line_answer form line ≡ judge_line (line_for form (Some l))
  unfolding line_answer tokens_answer
  written_for l w = rw (w.tokens, w.no_comment, line_read (w.first ∷ w.others) l w.written)

  pub written_answer : (l : PolicyLine) → IsWritten line l → allowed form l ≡ true → line_answer form line ≡ judge_line (Some l)
  unfolding line_for
  written_answer l w h = written_for l w ∙ rw h

  -- ---- back: from what is written to the answer

  pub skipped_answer : LineSkipped line → line_answer form line ≡ Ok None
  unfolding line_answer tokens_answer is_skipped
  skipped_answer h = grind arith

  pub accepted_answer : (l : PolicyLine) → LineAccepted form line l → line_answer form line ≡ Ok (Some l)
  unfolding judge_line valid
  accepted_answer l a = grind (arith, written_answer l)

  -- what stands there, where the line is not skipped
  read : is_skipped (tokens_of line) ≡ false → line_answer form line ≡ judge_line (line_for form (line_from (tokens_of line)))
  unfolding line_answer tokens_answer is_skipped
  read h = grind arith

  written : (l : PolicyLine) → is_skipped (tokens_of line) ≡ false → line_from (tokens_of line) ≡ Some l → IsWritten line l
  unfolding is_skipped
  written l h f = go (tokens_of line) refl h f
    where
      go : (ts : List (List ℕ)) → tokens_of line ≡ ts → is_skipped ts ≡ false → line_from ts ≡ Some l → IsWritten line l
      go [] e h f = cc
      go (t ∷ ts) e h f = record { first = t; others = ts; tokens = e; no_comment = h; written = line_in (t ∷ ts) l f }

  pub refused_answer : (f : Fault) → LineRefused form line f → line_answer form line ≡ Err f
  unfolding judge_line line_for
  refused_answer f (LineRefused.wrong_shape h missing) =
      let nothing : (l : PolicyLine) → line_from (tokens_of line) ≡ Some l → ⊥ = λ l e. missing l (written l h e) in grind (arith, read h, nothing)
  refused_answer f (LineRefused.not_in_form l w n) = written_for l w ∙ rw n
  refused_answer f (LineRefused.out_of_range l w a r) = written_answer l w a ∙ rw r
  refused_answer f (LineRefused.too_many l w a r c) = written_answer l w a ∙ rw (r, c)
  refused_answer f (LineRefused.twice l w a r c d) = written_answer l w a ∙ rw (r, c, d)

  -- ---- there: each line is one of the three

  abbrev pub Is : Result (Option PolicyLine) Fault → Type 0
  Is (Ok None) = LineSkipped line
  Is (Ok (Some l)) = LineAccepted form line l
  Is (Err f) = LineRefused form line f

  fails : (f : Fault) → LineRefused form line f → Is (line_answer form line)
  fails f r = rw (refused_answer f r) r

  pub is_one : Is (line_answer form line)
  unfolding judge_line
  is_one = go (is_skipped (tokens_of line)) refl
    where
      of_line : (l : PolicyLine) → IsWritten line l → (a r c d : Bool) → allowed form l ≡ a → in_range l ≡ r → crowded l ≡ c → repeated l ≡ d → Is (line_answer form line)
      of_line l w false r c d n p q s = fails Fault.Syntax (LineRefused.not_in_form l w n)
      of_line l w true false c d n p q s = fails Fault.OutOfRange (LineRefused.out_of_range l w n p)
      of_line l w true true true d n p q s = fails Fault.TooManyParts (LineRefused.too_many l w n p q)
      of_line l w true true false true n p q s = fails Fault.Duplicate (LineRefused.twice l w n p q s)
      of_line l w true true false false n p q s =
          let e : line_answer form line ≡ Ok (Some l) = written_answer l w n ∙ rw (p, q, s) in
          rw e (record { written = w; allowed = n; valid = accepted_valid form line l e })

      shaped : is_skipped (tokens_of line) ≡ false → (o : Option PolicyLine) → line_from (tokens_of line) ≡ o → Is (line_answer form line)
      shaped h None e =
          fails Fault.Syntax (LineRefused.wrong_shape h (λ l w. let k = ap line_from w.tokens in let r = line_read (w.first ∷ w.others) l w.written in cc))
      shaped h (Some l) e = of_line l (written l h e) (allowed form l) (in_range l) (crowded l) (repeated l) refl refl refl refl

      go : (b : Bool) → is_skipped (tokens_of line) ≡ b → Is (line_answer form line)
      go true h = rw (skipped_answer h) h
      go false h = shaped h (line_from (tokens_of line)) refl

  -- ---- exactly

  pub line_refused_exactly : (f : Fault) → (line_answer form line ≡ Err f) ↔ LineRefused form line f
  line_refused_exactly f = (λ h. rw h at is_one, refused_answer f)

  pub line_accepted_exactly : (l : PolicyLine) → (line_answer form line ≡ Ok (Some l)) ↔ LineAccepted form line l
  line_accepted_exactly l = (λ h. rw h at is_one, accepted_answer l)

  pub line_skipped_exactly : (line_answer form line ≡ Ok None) ↔ LineSkipped line
  line_skipped_exactly = (λ h. rw h at is_one, skipped_answer)
