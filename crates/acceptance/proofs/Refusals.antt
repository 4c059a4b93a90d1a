-- For which faults, and where, a text and an epoch line are refused.
use Rattle.std.proofs.Common.{ℕ, suc, ◌+◌, ◌≤◌, ◌<◌, List, [], ◌∷◌, inl, inr, ◌≡◌, arith, length, Err, Option}
use Rattle.policy.proofs.ResultLaws.{and_then_err, in_text_err}
use Rattle.policy.specs.Fault.{fault_number, in_text}
use Rattle.policy.specs.Line.{PolicyLine}
use Rattle.policy.specs.Policy.{Policy}
use Rattle.policy.specs.declared.fault.Fault.{Fault}
use Rattle.policy.specs.declared.fault.Refusal.{Refusal}
use Rattle.policy.specs.declared.fault.Source.{Source}
use Rattle.lexer.specs.Lines.{lines_of, tokens_of}
use Rattle.rule_text.specs.Answer.{text_read, texts_read}
use Rattle.epoch_line.specs.Epoch.{judge_epoch, read_epoch}
use Rattle.syntax.specs.Grammar.{line_from}
use Rattle.syntax.specs.Judge.{line_for, judge_line, tokens_answer, line_answer}
use Rattle.rule_text.proofs.ReadLaws.{line_reads, lines_refused, counted_err}
use Rattle.rule_text.specs.Text.{read_line, read_lines, empty_policy, read_text_behind, read_text, read_texts}
use Rattle.acceptance.specs.Refusals.{OfText, too_long, in_line_is, OfTexts, of_maker, of_site, OfEpoch}

-- ---- the faults of a line

record OfLine (f : Fault) : Type 0 where
  low : 2 ≤ fault_number f
  high : fault_number f ≤ 6

judged_fault : (o : Option PolicyLine) (f : Fault) → judge_line o ≡ Err f → OfLine f
unfolding judge_line
judged_fault o f e = grind arith

answered_fault : (form : ℕ) (line : List ℕ) (f : Fault) → line_answer form line ≡ Err f → OfLine f
unfolding line_answer tokens_answer
answered_fault form line f e = grind (arith, judged_fault (line_for form (line_from (tokens_of line))))

line_fault : (form : ℕ) (p : Policy) (line : List ℕ) (f : Fault) → read_line form p line ≡ Err f → OfLine f
line_fault form p line f e = grind (arith, line_reads form p line, answered_fault)

-- ---- the lines of a text

-- at one of so many lines from the n-th on
record Among (n count : ℕ) (r : Refusal) : Type 0 where
  fault : OfLine r.fault
  from : n ≤ r.location
  below : r.location < n + count

among : (form : ℕ) (ls : List (List ℕ)) (n : ℕ) (p : Policy) (r : Refusal) → read_lines form n p ls ≡ Err r → Among n (length ls) r
unfolding read_lines
among form [] n p r e = let z : ⊥ = cc in absurd z
among form (l ∷ ls) n p r e =
    elim (lines_refused form n p l ls r e) [
      | inl k ↦ rw (← k.2) (record { fault = line_fault form p l k.0 k.1; from = omega arith; below = omega arith })
      | inr k ↦ let a = among form ls (suc n) k.0 r k.2 in record { fault = a.fault; from = omega (arith, a.from); below = omega (arith, a.below) }
    ]

-- ---- a text is refused under 1 at no line, or under one of 2 to 6 at one of its lines

behind_faults : (form : ℕ) (source : Source) (p : Policy) (text : List ℕ) (r : Refusal) → in_text source (read_text_behind form p text) ≡ Err r → OfText source text r
unfolding read_text_behind
behind_faults form source p text r e =
    let k = in_text_err source (read_text_behind form p text) r e in rw (← k.2) (grind (arith, k.1, among form (lines_of text) 1 p k.0, too_long, in_line_is))

pub text_faults : (form : ℕ) (text : List ℕ) (r : Refusal) → text_read form text ≡ Err r → OfText Source.Maker text r
unfolding text_read read_text
text_faults form text r e = behind_faults form Source.Maker empty_policy text r (counted_err (in_text Source.Maker (read_text_behind form empty_policy text)) r e)

pub texts_faults : (form : ℕ) (maker site : List ℕ) (r : Refusal) → texts_read form maker site ≡ Err r → OfTexts form maker site r
unfolding texts_read read_texts read_text
texts_faults form maker site r e =
    elim (and_then_err (λ (p : Policy). in_text Source.Site (read_text_behind form p site)) (read_text form maker) r (counted_err (read_texts form maker site) r e)) [
      | inl k ↦ of_maker k (behind_faults form Source.Maker empty_policy maker r k)
      | inr k ↦ of_site k.0 (rw k.1) (behind_faults form Source.Site k.0 site r k.2)
    ]

-- ---- an epoch line is refused under 1, 12, 13 or 14

pub epoch_faults : (line : List ℕ) (r : Refusal) → read_epoch line ≡ Err r → OfEpoch r
unfolding read_epoch judge_epoch
epoch_faults line r e = grind arith
