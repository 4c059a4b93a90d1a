-- Two texts as one: their policy, and a single text as a case.
use Rattle.std.specs.Result.{result_ok}
use Rattle.std.proofs.Common.{ℕ, suc, ◌+◌, ◌≤◌, List, [], ◌∷◌, append_assoc, append-nil, ◌≡◌, refl, sym, ap, ◌∙◌, arith, le-ltb, length, length-append, Some, Ok}
use Rattle.std.proofs.lemmas.Bool.Decides.{nat_tests}
use Rattle.policy.proofs.ResultLaws.{and_then_ok, in_text_ok, known}
use Rattle.policy.specs.Fault.{in_text}
use Rattle.policy.specs.Limits.{line_limit}
use Rattle.policy.specs.Line.{PolicyLine, line_count}
use Rattle.policy.specs.Policy.{Policy}
use Rattle.policy.specs.declared.fault.Source.{Source}
use Rattle.policy.specs.declared.line.Part.{Part}
use Rattle.lexer.specs.Lines.{pieces, lines_of}
use Rattle.rule_text.proofs.ReadLaws.{line_reads, read_skipped, read_added, first_read, lines_read, behind_read, count_more, count_kept}
use Rattle.rule_text.specs.Answer.{counted, text_read, texts_read}
use Rattle.rule_text.specs.Text.{with_line, read_line, read_lines, empty_policy, text_limit, read_text_behind, read_text, read_texts, policy_of, policy_of_texts}
use Rattle.acceptance.proofs.Accepted.{texts_acceptable}
use Rattle.acceptance.specs.Texts.{joint, Joint}

-- ---- lines read behind a policy a and b are those read behind b alone, with a before them

joint_count : (a b : Policy) (part : Part) → line_count (joint a b) part ≡ line_count a part + line_count b part
joint_count a b part = grind (arith, length-append)

joint_line : (a b : Policy) (l : PolicyLine) → with_line (joint a b) l ≡ joint a (with_line b l)
unfolding with_line
joint_line a b l = grind (arith, append_assoc)

module _ (form : ℕ) (a : Policy) where
  -- one line
  line_apart : (b q : Policy) (line : List ℕ) → read_line form (joint a b) line ≡ Ok q → (c : Policy) × (read_line form b line ≡ Ok c) × (q ≡ joint a c)
  line_apart b q line e = grind (arith, nat_tests, line_reads form (joint a b) line, read_skipped form b line, read_added form b line, joint_count a b, joint_line a b)

  line_joint : (b c d : Policy) (line : List ℕ) → ((part : Part) → line_count c part ≤ line_count d part) → ((part : Part) → line_count a part + line_count d part ≤ line_limit part)
      → read_line form b line ≡ Ok c → read_line form (joint a b) line ≡ Ok (joint a c)
  line_joint b c d line grown few e = grind (arith, line_reads, read_skipped, read_added, joint_count, joint_line, count_more)

  -- all of them
  lines_apart : (ls : List (List ℕ)) (n : ℕ) (b q : Policy) → read_lines form n (joint a b) ls ≡ Ok q → (c : Policy) × (read_lines form n b ls ≡ Ok c) × (q ≡ joint a c)
  unfolding read_lines
  lines_apart [] n b q e = (b, refl, cc)
  lines_apart (l ∷ ls) n b q e =
      let k = lines_read form n (joint a b) l ls q e in
      let here = line_apart b k.0 l k.1 in
      let later = lines_apart ls (suc n) here.0 q (rw here.2 at k.2) in
      (later.0, first_read form n b l ls here.0 here.1 ∙ later.1, later.2)

-- no line is lost
line_grows : (form : ℕ) (p q : Policy) (line : List ℕ) → read_line form p line ≡ Ok q → (part : Part) → line_count p part ≤ line_count q part
line_grows form p q line e part = grind (arith, line_reads form p line, count_kept)

grows : (form : ℕ) (ls : List (List ℕ)) (n : ℕ) (p q : Policy) → read_lines form n p ls ≡ Ok q → (part : Part) → line_count p part ≤ line_count q part
unfolding read_lines
grows form [] n p q e part = grind arith
grows form (l ∷ ls) n p q e part =
    let k = lines_read form n p l ls q e in
    omega (arith, line_grows form p k.0 l k.1 part, grows form ls (suc n) k.0 q k.2 part)

lines_joint : (form : ℕ) (a : Policy) (ls : List (List ℕ)) (n : ℕ) (b d : Policy) → ((part : Part) → line_count a part + line_count d part ≤ line_limit part)
    → read_lines form n b ls ≡ Ok d → read_lines form n (joint a b) ls ≡ Ok (joint a d)
unfolding read_lines
lines_joint form a [] n b d few e = cc
lines_joint form a (l ∷ ls) n b d few e =
    let k = lines_read form n b l ls d e in
    first_read form n (joint a b) l ls (joint a k.0) (line_joint form a b k.0 d l (grows form ls (suc n) k.0 d k.2) few k.1) ∙ lines_joint form a ls (suc n) k.0 d few k.2

-- ---- the policy of two texts

-- behind an empty policy stands nothing else
nothing_behind : (a : Policy) → joint a empty_policy ≡ a
nothing_behind a = grind (arith, append-nil)

short_read : (form : ℕ) (source : Source) (p : Policy) (text : List ℕ) (q : Policy) → length text ≤ text_limit → read_lines form 1 p (lines_of text) ≡ Ok q → in_text source (read_text_behind form p text) ≡ Ok q
unfolding read_text_behind
short_read form source p text q h k = rw (le-ltb _ _ h, k)

pub texts_joint : (form : ℕ) (maker site : List ℕ) (p : Policy) → policy_of_texts form maker site ≡ Some p → Joint form maker site p
unfolding read_texts read_text
texts_joint form maker site p e =
    let read : read_texts form maker site ≡ Ok p = known (read_texts form maker site) p e in
    let k = and_then_ok (λ (a : Policy). in_text Source.Site (read_text_behind form a site)) (read_text form maker) p read in
    let t = behind_read form k.0 site p (in_text_ok Source.Site (read_text_behind form k.0 site) p k.2) in
    let x = lines_apart form k.0 (lines_of site) 1 empty_policy p (ap (λ (y : Policy). read_lines form 1 y (lines_of site)) (nothing_behind k.0) ∙ t.1) in
    let ok = texts_acceptable form maker site p read in
    record {
      makers = k.0;
      sites = x.0;
      maker_read = ap result_ok k.1;
      site_read = ap result_ok (short_read form Source.Maker empty_policy site x.0 t.0 x.1);
      same = x.2;
      few_rules = ok.few_rules;
      few_constraints = ok.few_constraints;
    }

pub joint_texts : (form : ℕ) (maker site : List ℕ) (p : Policy) → Joint form maker site p → policy_of_texts form maker site ≡ Some p
unfolding read_texts read_text
joint_texts form maker site p j =
    let a : Policy = j.makers in
    let m : read_text form maker ≡ Ok a = known (read_text form maker) a j.maker_read in
    let t = behind_read form empty_policy site j.sites (in_text_ok Source.Maker (read_text_behind form empty_policy site) j.sites (known (read_text form site) j.sites j.site_read)) in
    let r = lines_joint form a (lines_of site) 1 empty_policy j.sites few t.1 in
    let short = short_read form Source.Site a site (joint a j.sites) t.0 (ap (λ y. read_lines form 1 y (lines_of site)) (sym (nothing_behind a)) ∙ r) in
    rw (m, short, j.same)
  where
    few : (part : Part) → line_count j.makers part + line_count j.sites part ≤ line_limit part
    few part = grind (arith, j, length-append)

-- ---- an empty site's text

-- all is as for a single text: what is read, the policy, and what is answered
pub site_empty : (form : ℕ) (text : List ℕ) → read_texts form text [] ≡ read_text form text
unfolding read_texts read_text_behind read_lines lines_of pieces
site_empty form text = grind arith

pub policy_alone : (form : ℕ) (text : List ℕ) → policy_of_texts form text [] ≡ policy_of form text
policy_alone form text = ap result_ok (site_empty form text)

pub read_alone : (form : ℕ) (text : List ℕ) → texts_read form text [] ≡ text_read form text
unfolding texts_read text_read
read_alone form text = ap counted (site_empty form text)
