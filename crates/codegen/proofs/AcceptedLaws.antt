-- The lines of two accepted texts make up their policy, and how many words they take.
use Rattle.std.proofs.Common.{Result, Ok, ℕ, suc, ◌+◌, ◌≤◌, true, List, [], ◌∷◌, ◌++◌, map, append_assoc, append-nil, ◌≡◌, refl, sym, ap, ◌∙◌, add-one, arith, length, drop, length-append}
use Rattle.policy.proofs.ResultLaws.{and_then_ok, in_text_ok}
use Rattle.policy.specs.Fault.{in_text}
use Rattle.policy.specs.Limits.{Acceptable}
use Rattle.policy.specs.Line.{PolicyLine, rule, constraint, constant_count}
use Rattle.policy.specs.Policy.{Policy}
use Rattle.policy.specs.declared.comparison.Comparison.{Comparison}
use Rattle.policy.specs.declared.fault.Refusal.{Refusal}
use Rattle.policy.specs.declared.fault.Source.{Source}
use Rattle.exactness.proofs.Exact.{P_limit, N_limit}
use Rattle.layout.proofs.LayoutLaws.{part_length}
use Rattle.layout.specs.Steps.Size.{comparisons_size, condition_size}
use Rattle.layout.specs.Layout.{line_words, lines_words, rule_part_words, constraint_part_words, known_form, rule_word_limit, constraint_word_limit}
use Rattle.image.specs.Held.{rules_in, constraints_in}
use Rattle.acceptance.proofs.Accepted.{texts_acceptable}
use Rattle.rule_text.specs.Answer.{total, counts_in, counts_of, texts_read}
use Rattle.lexer.specs.Lines.{lines_of}
use Rattle.syntax.specs.Judge.{line_answer}
use Rattle.syntax.specs.Lines.{TextLine, before_later, lines_from, lines_in}
use Rattle.rule_text.proofs.ReadLaws.{LineRead, line_reads, lines_read, behind_read, counted_ok}
use Rattle.rule_text.specs.Text.{with_line, read_line, read_lines, empty_policy, text_limit, read_text_behind, read_text, read_texts}
use Rattle.rule_text.specs.declared.LineCounts.{LineCounts}
use Rattle.policy.specs.declared.line.PerPart.{PerPart}
use Rattle.codegen.specs.Compile.{newest_form}
use Rattle.codegen.specs.Steps.Put.{word_count, accepted_lines, lines_of_both}

-- ---- the lines that were accepted are those of the policy

-- the policy q is p with the lines behind it
record Extends (p : Policy) (ls : List PolicyLine) (q : Policy) : Type 0 where
  rules : q.rules ≡ p.rules ++ rules_in ls
  constraints : q.constraints ≡ p.constraints ++ constraints_in ls

extends_more : (p : Policy) (l : PolicyLine) (ls : List PolicyLine) (q : Policy) → Extends (with_line p l) ls q → Extends p (l ∷ ls) q
unfolding with_line rules_in constraints_in
extends_more p l ls q x = grind (arith, append_assoc)

-- the same, where a line was read
extends_read : (form : ℕ) (p m q : Policy) (n : ℕ) (text l : List ℕ) (behind : List (Result TextLine Refusal)) → LineRead form p l → read_line form p l ≡ Ok m → Extends m (accepted_lines behind) q
    → Extends p (accepted_lines (before_later n text l (line_answer form l) behind)) q
unfolding accepted_lines before_later
extends_read form p m q n text l behind (LineRead.skips a s) r x = let i : m ≡ p = cc in rw a (rw i at x)
extends_read form p m q n text l behind (LineRead.fails f a s) r x = cc
extends_read form p m q n text l behind (LineRead.adds d a h s) r x = let i : m ≡ with_line p d = cc in rw a (extends_more p d (accepted_lines behind) q (rw i at x))
extends_read form p m q n text l behind (LineRead.is_over d a h s) r x = cc

extends : (form : ℕ) (ls : List (List ℕ)) (n : ℕ) (text : List ℕ) (p q : Policy) → read_lines form n p ls ≡ Ok q → Extends p (accepted_lines (lines_from form n text ls)) q
unfolding read_lines accepted_lines lines_from rules_in constraints_in
extends form [] n text p q e = let s : q ≡ p = cc in rw s (record { rules = sym (append-nil p.rules); constraints = sym (append-nil p.constraints) })
extends form (l ∷ ls) n text p q e =
    let k = lines_read form n p l ls q e in
    extends_read form p k.0 q n text l (lines_from form (n + 1) (drop (suc (length l)) text) ls) (line_reads form p l) k.1 (rw (add-one n) (extends form ls (suc n) (drop (suc (length l)) text) k.0 q k.2))

-- ---- how many words a line takes

comparisons_counted : (cs : List Comparison) → comparisons_size cs ≡ length cs + constant_count cs
unfolding comparisons_size constant_count
comparisons_counted [] = refl
comparisons_counted (c ∷ cs) = grind (arith, comparisons_counted cs)

lines_words_is : (ls : List PolicyLine) → word_count (counts_in ls) ≡ length (lines_words ls)
unfolding counts_in total lines_words line_words condition_size
lines_words_is [] = refl
lines_words_is (l ∷ ls) = grind (arith, part_length, comparisons_counted, length-append, lines_words_is ls)

-- ---- two accepted texts

pub newest_known : known_form newest_form ≡ true
unfolding known_form
newest_known = refl

rules_append : (ls ms : List PolicyLine) → rules_in (ls ++ ms) ≡ rules_in ls ++ rules_in ms
unfolding rules_in
rules_append [] ms = refl
rules_append (l ∷ ls) ms = grind (arith, rules_append ls ms)

constraints_append : (ls ms : List PolicyLine) → constraints_in (ls ++ ms) ≡ constraints_in ls ++ constraints_in ms
unfolding constraints_in
constraints_append [] ms = refl
constraints_append (l ∷ ls) ms = grind (arith, constraints_append ls ms)

-- the lines of a text that was read
lined : (form : ℕ) (source : Source) (p : Policy) (text : List ℕ) (q : Policy) → in_text source (read_text_behind form p text) ≡ Ok q → (length text ≤ text_limit) × Extends p (accepted_lines (lines_in form text)) q
lined form source p text q e =
    let t = behind_read form p text q (in_text_ok source (read_text_behind form p text) q e) in
    (t.0, extends form (lines_of text) 1 text p q t.1)

pub record AcceptedTexts (form : ℕ) (maker site : List ℕ) (counts : PerPart LineCounts) : Type 0 where
  pub known : known_form form ≡ true
  pub policy : Policy
  pub read : read_texts form maker site ≡ Ok policy
  pub acceptable : Acceptable form policy
  pub maker_short : length maker ≤ text_limit
  pub site_short : length site ≤ text_limit
  pub rule_count_is : word_count counts.rules ≡ length (rule_part_words policy)
  pub constraint_count_is : word_count counts.constraints ≡ length (constraint_part_words policy)
  pub rule_limit_is : length (rule_part_words policy) ≤ rule_word_limit form
  pub constraint_limit_is : length (constraint_part_words policy) ≤ constraint_word_limit form
  pub rules : rules_in (lines_of_both form maker site) ≡ policy.rules
  pub constraints : constraints_in (lines_of_both form maker site) ≡ policy.constraints

pub accepted_texts : (form : ℕ) (maker site : List ℕ) (counts : PerPart LineCounts) → known_form form ≡ true → texts_read form maker site ≡ Ok counts → AcceptedTexts form maker site counts
unfolding texts_read read_texts read_text counts_of rule_part_words constraint_part_words
accepted_texts form maker site counts known e =
    let r = counted_ok (read_texts form maker site) counts e in
    let p : Policy = r.0 in
    let k = and_then_ok (λ (a : Policy). in_text Source.Site (read_text_behind form a site)) (read_text form maker) p r.1 in
    let ok = texts_acceptable form maker site p r.1 in
    let f = lined form Source.Maker empty_policy maker k.0 k.1 in
    let g = lined form Source.Site k.0 site p k.2 in
    record {
      known = known;
      policy = p;
      read = r.1;
      acceptable = ok;
      maker_short = f.0;
      site_short = g.0;
      rule_count_is = ap (λ (x : PerPart LineCounts). word_count x.rules) (sym r.2) ∙ lines_words_is (map rule p.rules);
      constraint_count_is = ap (λ (x : PerPart LineCounts). word_count x.constraints) (sym r.2) ∙ lines_words_is (map constraint p.constraints);
      rule_limit_is = P_limit form known p ok;
      constraint_limit_is = N_limit form known p ok;
      rules = rw (rules_append, ← f.1.rules) (sym g.1.rules);
      constraints = rw (constraints_append, ← f.1.constraints) (sym g.1.constraints);
    }
