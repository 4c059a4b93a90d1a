-- What an accepted text has: lines within the limits, and not too many of them.
use Rattle.std.proofs.Common.{ℕ, suc, ◌≤◌, ◌<◌, true, false, List, [], ◌∷◌, ◌≡◌, refl, arith, lt-ltb, le-ltb, length, Option, Some, Ok}
use Rattle.std.proofs.lemmas.List.{map-append}
use Rattle.std.proofs.Math.ListN.{length-map}
use Rattle.std.proofs.lemmas.Bool.Decides.{nat_tests}
use Rattle.std.proofs.lemmas.Grind.{common_steps}
use Rattle.policy.proofs.ResultLaws.{and_then_ok, in_text_ok}
use Rattle.policy.specs.Fault.{in_text}
use Rattle.policy.specs.Limits.{allowed, valid, in_range, crowded, repeated, Acceptable}
use Rattle.policy.specs.Line.{PolicyLine, rule, constraint, heads_of, ending_of}
use Rattle.policy.specs.Policy.{Policy}
use Rattle.policy.specs.declared.fault.Source.{Source}
use Rattle.policy.specs.declared.line.Test.{Test}
use Rattle.acceptance.proofs.Written.{line_in}
use Rattle.acceptance.specs.Written.{AreJoined}
use Rattle.lexer.specs.Token.{Token, literal_of, action_of}
use Rattle.syntax.specs.Grammar.{line_from}
use Rattle.lexer.specs.Lines.{lines_of, tokens_of}
use Rattle.syntax.specs.Judge.{line_for, judge_line, tokens_answer, line_answer}
use Rattle.rule_text.proofs.ReadLaws.{line_reads, lines_read, behind_read}
use Rattle.rule_text.specs.Text.{has_room, with_line, read_line, read_lines, empty_policy, text_limit, read_text_behind, read_text, read_texts}

-- ---- a line of either shape has a literal or an action

joined_some : {A : Type 0} (item : Token → Option A) (ts : List Token) (xs : List A) → AreJoined item ts xs → 0 < length xs
unfolding AreJoined
joined_some item ts xs h = grind arith

line_heads : (ts : List Token) (l : PolicyLine) → line_from ts ≡ Some l → 0 < length (heads_of l)
unfolding heads_of
line_heads ts (rule x) e = let r = line_in ts (rule x) e in omega (arith, joined_some literal_of r.literals x.literals r.are_literals, length-map x.literals Test.Occurs)
line_heads ts (constraint x) e =
    let c = line_in ts (constraint x) e in omega (arith, joined_some action_of c.actions x.actions c.are_actions, length-map x.actions Test.Member)

-- ---- an accepted line is one that the form has, and valid

record Judged (form : ℕ) (o : Option PolicyLine) (l : PolicyLine) : Type 0 where
  line : o ≡ Some l
  allowed : allowed form l ≡ true
  ranges : in_range l ≡ true
  few : crowded l ≡ false
  once : repeated l ≡ false

judged : (form : ℕ) (o : Option PolicyLine) (l : PolicyLine) → judge_line (line_for form o) ≡ Ok (Some l) → Judged form o l
unfolding judge_line line_for
judged form o l e = grind arith

module _ (form : ℕ) (line : List ℕ) (l : PolicyLine) where
  accepted_line : line_answer form line ≡ Ok (Some l) → Judged form (line_from (tokens_of line)) l
  unfolding line_answer tokens_answer
  accepted_line e = grind (arith, judged form (line_from (tokens_of line)) l)

  pub accepted_allowed : line_answer form line ≡ Ok (Some l) → allowed form l ≡ true
  accepted_allowed e = (accepted_line e).allowed

  pub accepted_valid : line_answer form line ≡ Ok (Some l) → valid l ≡ true
  unfolding valid
  accepted_valid e = grind (arith, accepted_line e, lt-ltb 0 (length (heads_of l)), line_heads (tokens_of line) l)

-- ---- an accepted text is within the limits

keeps : (form : ℕ) (p : Policy) (l : PolicyLine) → allowed form l ≡ true → valid l ≡ true → has_room p l ≡ true → Acceptable form p → Acceptable form (with_line p l)
unfolding with_line ending_of
keeps form p l a v h w = grind (arith, nat_tests, common_steps, map-append)

keeps_line : (form : ℕ) (p q : Policy) (line : List ℕ) → Acceptable form p → read_line form p line ≡ Ok q → Acceptable form q
keeps_line form p q line w e = grind (arith, line_reads form p line, keeps form p, accepted_allowed form line, accepted_valid form line)

keeps_lines : (form : ℕ) (ls : List (List ℕ)) (n : ℕ) (p q : Policy) → Acceptable form p → read_lines form n p ls ≡ Ok q → Acceptable form q
unfolding read_lines
keeps_lines form [] n p q w e = let i : p ≡ q = cc in rw (← i) w
keeps_lines form (l ∷ ls) n p q w e = let k = lines_read form n p l ls q e in keeps_lines form ls (suc n) k.0 q (keeps_line form p k.0 l w k.1) k.2

keeps_behind : (form : ℕ) (source : Source) (p : Policy) (text : List ℕ) (q : Policy) → Acceptable form p → in_text source (read_text_behind form p text) ≡ Ok q → Acceptable form q
keeps_behind form source p text q w e = keeps_lines form (lines_of text) 1 p q w (behind_read form p text q (in_text_ok source (read_text_behind form p text) q e)).1

pub accepted_acceptable : (form : ℕ) (text : List ℕ) (p : Policy) → read_text form text ≡ Ok p → Acceptable form p
unfolding read_text
accepted_acceptable form text p e =
    keeps_behind form Source.Maker empty_policy text p (record { rules_valid = refl; constraints_valid = refl; rules_allowed = refl; few_rules = omega arith; few_constraints = omega arith }) e

pub texts_acceptable : (form : ℕ) (maker site : List ℕ) (p : Policy) → read_texts form maker site ≡ Ok p → Acceptable form p
unfolding read_texts
texts_acceptable form maker site p e =
    let k = and_then_ok (λ (a : Policy). in_text Source.Site (read_text_behind form a site)) (read_text form maker) p e in
    keeps_behind form Source.Site k.0 site p (accepted_acceptable form maker k.0 k.1) k.2

-- two texts within the length with the same lines have the same answer
pub lines_decide : (form : ℕ) (s t : List ℕ) → length s ≤ text_limit → length t ≤ text_limit → lines_of s ≡ lines_of t → read_text form s ≡ read_text form t
unfolding read_text read_text_behind
lines_decide form s t h k e = rw (le-ltb text_limit (length s) h, le-ltb text_limit (length t) k, e)
