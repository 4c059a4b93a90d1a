-- A text that is accepted for images of some form is accepted, with the same policy, for those of each form that has lines which trigger
-- events.
use Rattle.std.proofs.Common.{ℕ, arith, true, List, [], ◌∷◌, ◌≡◌, Option, Ok, leb}
use Rattle.policy.proofs.ResultLaws.{and_then_ok, in_text_ok}
use Rattle.policy.specs.Fault.{in_text}
use Rattle.policy.specs.Limits.{trigger_form, ending_allowed, allowed}
use Rattle.policy.specs.Line.{PolicyLine}
use Rattle.policy.specs.Policy.{Policy}
use Rattle.policy.specs.declared.fault.Source.{Source}
use Rattle.syntax.specs.Judge.{line_for, judge_line, tokens_answer, line_answer}
use Rattle.rule_text.proofs.ReadLaws.{lines_read, first_read}
use Rattle.rule_text.specs.Text.{with_any_line, read_line, read_lines, empty_policy, read_text_behind, read_text, read_texts}

module _ (form newer : ℕ) (triggers : leb trigger_form newer ≡ true) where
  allowed_newer : (l : PolicyLine) → allowed newer l ≡ true
  unfolding ending_allowed
  allowed_newer l = grind arith

  judged_newer : (o : Option PolicyLine) (x : Option PolicyLine) → judge_line (line_for form o) ≡ Ok x → judge_line (line_for newer o) ≡ Ok x
  unfolding line_for judge_line
  judged_newer o x e = grind (arith, allowed_newer)

  line_newer : (line : List ℕ) (x : Option PolicyLine) → line_answer form line ≡ Ok x → line_answer newer line ≡ Ok x
  unfolding line_answer tokens_answer
  line_newer line x e = grind (arith, judged_newer)

  read_newer : (p : Policy) (line : List ℕ) (q : Policy) → read_line form p line ≡ Ok q → read_line newer p line ≡ Ok q
  unfolding read_line
  read_newer p line q e = let k = and_then_ok (with_any_line p) (line_answer form line) q e in rw (line_newer line k.0 k.1) k.2

  lines_newer : (ls : List (List ℕ)) (n : ℕ) (p q : Policy) → read_lines form n p ls ≡ Ok q → read_lines newer n p ls ≡ Ok q
  unfolding read_lines
  lines_newer [] n p q e = e
  lines_newer (l ∷ ls) n p q e = grind (arith, lines_read, first_read, read_newer, lines_newer ls)

  behind_newer : (source : Source) (p : Policy) (text : List ℕ) (q : Policy) → in_text source (read_text_behind form p text) ≡ Ok q → in_text source (read_text_behind newer p text) ≡ Ok q
  unfolding read_text_behind
  behind_newer source p text q e = let k = in_text_ok source (read_text_behind form p text) q e in grind (arith, k, lines_newer)

  pub text_newer : (text : List ℕ) (p : Policy) → read_text form text ≡ Ok p → read_text newer text ≡ Ok p
  unfolding read_text
  text_newer text p = behind_newer Source.Maker empty_policy text p

  pub texts_newer : (maker site : List ℕ) (p : Policy) → read_texts form maker site ≡ Ok p → read_texts newer maker site ≡ Ok p
  unfolding read_texts
  texts_newer maker site p e =
      let k = and_then_ok (λ (a : Policy). in_text Source.Site (read_text_behind form a site)) (read_text form maker) p e in
      rw (text_newer maker k.0 k.1) (behind_newer Source.Site k.0 site p k.2)
