-- The first line of both texts that passes a test: where some line of their policy does, one is shown, and it is the first.
use Rattle.std.proofs.Common.{ℕ, suc, ◌+◌, Bool, true, false, cond, List, [], ◌∷◌, ◌++◌, ◌↔◌, ◌⊎◌, ⊎_elim, ◌≡◌, refl, sym, ap, ap₂, ◌∙◌, subst, Contains, add-one, arith, length, drop, Option, Some, None, Result, Ok, Err}
use Rattle.std.proofs.Math.Path.{subst⁻¹}
use Rattle.std.proofs.lemmas.List.Elements.{Contains-append_left, Contains-append_right, Contains-append_cases}
use Rattle.policy.proofs.ListLaws.{contains_cases, contains_first, contains_later}
use Rattle.policy.proofs.ResultLaws.{and_then_ok, in_text_ok}
use Rattle.policy.specs.Fault.{in_text}
use Rattle.policy.specs.Line.{PolicyLine, rule, constraint}
use Rattle.policy.specs.Policy.{Policy, Rule, Constraint}
use Rattle.policy.specs.declared.fault.Fault.{Fault}
use Rattle.policy.specs.declared.fault.Refusal.{Refusal}
use Rattle.policy.specs.declared.fault.Source.{Source}
use Rattle.image.specs.Held.{rules_in, constraints_in}
use Rattle.lexer.specs.Lines.{lines_of}
use Rattle.syntax.specs.Judge.{line_answer}
use Rattle.syntax.specs.Lines.{TextLine, before_later, lines_from, lines_in}
use Rattle.rule_text.specs.Answer.{counts_of, counted, texts_read}
use Rattle.rule_text.proofs.ReadLaws.{LineRead, line_reads, lines_read, behind_read}
use Rattle.rule_text.specs.Text.{read_lines, empty_policy, read_text_behind, read_text, read_texts}
use Rattle.codegen.proofs.AcceptedLaws.{accepted_texts, newest_known}
use Rattle.codegen.specs.Compile.{newest_form}
use Rattle.codegen.specs.Steps.Put.{accepted_lines, lines_of_both}
use Rattle.explanation.specs.Part.{trim, Stretch, Quote, of_maker, of_site, shown_at, or_later, first_from, first_shown}
use Rattle.guarantees.proofs.ShownLaws.{trimming, not_empty, line_at, part_straight}
use Rattle.guarantees.specs.Explanations.{Listed, ended_length, Trimmed, FirstOf, FirstLine}

-- ---- the lines of a policy

abbrev pub policy_in_lines : List PolicyLine → Policy
policy_in_lines ls = record { rules = rules_in ls; constraints = constraints_in ls }

pub listed_line : (ls : List PolicyLine) (l : PolicyLine) → Listed (policy_in_lines ls) l → Contains ls l
unfolding rules_in constraints_in
listed_line [] (rule r) m = absurd (omega (arith, m.1))
listed_line [] (constraint c) m = absurd (omega (arith, m.1))
listed_line (k ∷ ls) l m = grind (arith, contains_cases, contains_first, contains_later, listed_line ls l)

line_listed : (ls : List PolicyLine) (l : PolicyLine) → Contains ls l → Listed (policy_in_lines ls) l
unfolding rules_in constraints_in
line_listed [] l m = absurd (omega (arith, m.1))
line_listed (rule k ∷ ls) (rule r) m = grind (arith, contains_cases (rule k) ls (rule r) m, contains_first, contains_later, line_listed ls (rule r))
line_listed (constraint k ∷ ls) (rule r) m = grind (arith, contains_cases (constraint k) ls (rule r) m, line_listed ls (rule r))
line_listed (rule k ∷ ls) (constraint c) m = grind (arith, contains_cases (rule k) ls (constraint c) m, line_listed ls (constraint c))
line_listed (constraint k ∷ ls) (constraint c) m = grind (arith, contains_cases (constraint k) ls (constraint c) m, contains_first, contains_later, line_listed ls (constraint c))

-- ---- lines that were read

-- none was refused: a line that is accepted is one of the policy's
abbrev pub Held : List (List ℕ) → List (Result TextLine Refusal) → Type 0
Held ls read = (line : List ℕ) → Contains ls line → (l : PolicyLine) → line_answer newest_form line ≡ Ok (Some l) → Contains (accepted_lines read) l

held : (ls : List (List ℕ)) (n : ℕ) (text : List ℕ) (p q : Policy) → read_lines newest_form n p ls ≡ Ok q → Held ls (lines_from newest_form n text ls)
unfolding accepted_lines lines_from before_later
held [] n text p q e line i l k = absurd (omega (arith, i.1))
held (x ∷ ls) n text p q e line i l k =
    let r = lines_read newest_form n p x ls q e in
    let one : n + 1 ≡ suc n = add-one n in
    go (line_reads newest_form p x) (contains_cases x ls line i) (rw one (held ls (suc n) (drop (suc (length x)) text) r.0 q r.2))
  where
    behind : List (Result TextLine Refusal)
    behind = lines_from newest_form (n + 1) (drop (suc (length x)) text) ls

    go : LineRead newest_form p x → (x ≡ line) ⊎ Contains ls line → Held ls behind → Contains (accepted_lines (before_later n text x (line_answer newest_form x) behind)) l
    go (LineRead.skips a s) c later = grind (arith, c, a, later line)
    go (LineRead.fails f a s) c later = absurd (cc (lines_read newest_form n p x ls q e).1)
    go (LineRead.adds y a h s) c later = rw a (⊎_elim (λ w. (0, omega arith, cc)) (λ j. contains_later y (accepted_lines behind) l (later line j l k)) c)
    go (LineRead.is_over y a h s) c later = absurd (cc (lines_read newest_form n p x ls q e).1)

-- ---- the first line of a text that passes

module _ (test : PolicyLine → Bool) where
  record Found (at : ℕ) (lines : List (List ℕ)) (shown : Stretch) : Type 0 where
    before : List (List ℕ)
    line : List ℕ
    behind : List (List ℕ)
    stands : lines ≡ before ++ line ∷ behind
    is : PolicyLine
    read : line_answer newest_form line ≡ Ok (Some is)
    passes : test is ≡ true
    first : (x : List ℕ) → Contains before x → (l : PolicyLine) → line_answer newest_form x ≡ Ok (Some l) → test l ≡ true → ⊥
    shows : shown ≡ shown_at (at + ended_length before) line

  module _ (at : ℕ) (line : List ℕ) (lines : List (List ℕ)) (shown : Stretch) where
    found_here : (l : PolicyLine) → line_answer newest_form line ≡ Ok (Some l) → test l ≡ true → shown_at at line ≡ shown → Found at (line ∷ lines) shown
    unfolding ended_length
    found_here l k t e =
        let z : at + 0 ≡ at = omega arith in
        record {
          before = [];
          line = line;
          behind = lines;
          stands = refl;
          is = l;
          read = k;
          passes = t;
          first = λ x m. absurd (omega (arith, m.1));
          shows = sym e ∙ ap (λ (n : ℕ). shown_at n line) (sym z);
        }

    found_later : ((l : PolicyLine) → line_answer newest_form line ≡ Ok (Some l) → test l ≡ true → ⊥) → Found (at + length line + 1) lines shown → Found at (line ∷ lines) shown
    unfolding ended_length
    found_later fails f =
        let n : at + length line + 1 + ended_length f.before ≡ at + (length line + 1 + ended_length f.before) = omega arith in
        record {
          before = line ∷ f.before;
          line = f.line;
          behind = f.behind;
          stands = ap (λ (ls : List (List ℕ)). line ∷ ls) f.stands;
          is = f.is;
          read = f.read;
          passes = f.passes;
          first = λ x m l k. ⊎_elim (λ w. fails l (ap (line_answer newest_form) w ∙ k)) (λ i. f.first x i l k) (contains_cases line f.before x m);
          shows = f.shows ∙ ap (λ (n : ℕ). shown_at n f.line) n;
        }

  found : (lines : List (List ℕ)) (at : ℕ) (shown : Stretch) → first_from test at lines ≡ Some shown → Found at lines shown
  unfolding first_from or_later
  found [] at shown e = cc
  found (line ∷ lines) at shown e = go (line_answer newest_form line) refl (found lines (at + length line + 1) shown) e
    where
      next : Option Stretch
      next = first_from test (at + length line + 1) lines

      go : (a : Result (Option PolicyLine) Fault) → line_answer newest_form line ≡ a → (next ≡ Some shown → Found (at + length line + 1) lines shown) → or_later test a at line next ≡ Some shown → Found at (line ∷ lines) shown
      go (Ok None) k rec h = found_later at line lines shown (λ l j t. cc) (rec h)
      go (Err f) k rec h = cc
      go (Ok (Some l)) k rec h = passing (test l) refl h
        where
          passing : (b : Bool) → test l ≡ b → cond b (Some (shown_at at line)) next ≡ Some shown → Found at (line ∷ lines) shown
          passing true t v = found_here at line lines shown l k t cc
          passing false t v = found_later at line lines shown (λ m j u. cc) (rec v)

  -- where none is found, no line of the policy passes
  none_found : (lines : List (List ℕ)) (n at : ℕ) (text : List ℕ) → first_from test at lines ≡ None → (l : PolicyLine) → Contains (accepted_lines (lines_from newest_form n text lines)) l → test l ≡ true → ⊥
  unfolding first_from or_later accepted_lines lines_from before_later
  none_found [] n at text e l m t = omega (arith, m.1)
  none_found (line ∷ lines) n at text e l m t = grind (arith, none_found lines (n + 1) (at + length line + 1) (drop (suc (length line)) text))

-- ---- of both texts

-- both texts were read, and their lines are the policy's
pub record Both (maker site : List ℕ) (p : Policy) : Type 0 where
  pub makers : Held (lines_of maker) (lines_in newest_form maker)
  pub sites : Held (lines_of site) (lines_in newest_form site)
  pub rules : rules_in (lines_of_both newest_form maker site) ≡ p.rules
  pub constraints : constraints_in (lines_of_both newest_form maker site) ≡ p.constraints

text_held : (source : Source) (q : Policy) (text : List ℕ) (p : Policy) → in_text source (read_text_behind newest_form q text) ≡ Ok p → Held (lines_of text) (lines_in newest_form text)
text_held source q text p e = held (lines_of text) 1 text q p (behind_read newest_form q text p (in_text_ok source (read_text_behind newest_form q text) p e)).1

pub both : (maker site : List ℕ) (p : Policy) → read_texts newest_form maker site ≡ Ok p → Both maker site p
unfolding read_texts read_text texts_read
both maker site p e =
    let k = and_then_ok (λ (q : Policy). in_text Source.Site (read_text_behind newest_form q site)) (read_text newest_form maker) p e in
    let a = accepted_texts newest_form maker site (counts_of p) newest_known (ap counted e) in
    let read : read_texts newest_form maker site ≡ Ok p = e in
    let same : a.policy ≡ p = cc (a.read) in
    record {
      makers = text_held Source.Maker empty_policy maker k.0 k.1;
      sites = text_held Source.Site k.0 site p k.2;
      rules = a.rules ∙ ap (λ (x : Policy). x.rules) same;
      constraints = a.constraints ∙ ap (λ (x : Policy). x.constraints) same;
    }

-- the first line of both texts that passes is shown
pub record FirstShown (test : PolicyLine → Bool) (Says : PolicyLine → Type 0) (p : Policy) (maker site : List ℕ) : Type 0 where
  pub shown : Quote
  pub found : first_shown test maker site ≡ Some shown
  pub line : FirstLine Says p maker site shown

module _ (test : PolicyLine → Bool) (Says : PolicyLine → Type 0) (means : (l : PolicyLine) → (test l ≡ true) ↔ Says l) (maker site : List ℕ) (p : Policy) (b : Both maker site p) where
  both_listed : (l : PolicyLine) → Contains (lines_of_both newest_form maker site) l → Listed p l
  both_listed l m =
      subst (λ (q : Policy). Listed q l) (ap₂ (λ (x : List Rule) (y : List Constraint). record { rules = x; constraints = y }) b.rules b.constraints)
      (line_listed (lines_of_both newest_form maker site) l m)

  first_in : (text : List ℕ) → ((l : PolicyLine) → Contains (accepted_lines (lines_in newest_form text)) l → Listed p l) → Held (lines_of text) (lines_in newest_form text) → (shown : Stretch) → Found test 0 (lines_of text) shown → FirstOf Says p text shown
  unfolding shown_at trimming
  first_in text listed holds shown f =
      let n : 0 + ended_length f.before ≡ ended_length f.before = omega arith in
      subst⁻¹ (FirstOf Says p text) (f.shows ∙ ap (λ (k : ℕ). shown_at k f.line) n) made
    where
      at : ℕ
      at = ended_length f.before

      t : Trimmed f.line (trim f.line)
      t = trimming f.line

      made : FirstOf Says p text (shown_at at f.line)
      made =
          record {
            before = f.before;
            line = f.line;
            behind = f.behind;
            stands = f.stands;
            is = f.is;
            read = f.read;
            listed = listed f.is (holds f.line (rw f.stands (Contains-append_right f.before (f.line ∷ f.behind) f.line (contains_first f.line f.behind))) f.is f.read);
            says = (means f.is).0 f.passes;
            first = λ x i k j s. f.first x i k j ((means k).1 s);
            trimmed = t;
            at = refl;
            straight = part_straight text at f.line (trim f.line) (line_at f.before text f.line f.behind f.stands) t (not_empty f.line (trim f.line) f.is f.read t);
          }

  -- where a line of the policy passes, there is one
  pub first_line : (l : PolicyLine) → Contains (lines_of_both newest_form maker site) l → test l ≡ true → FirstShown test Says p maker site
  unfolding first_shown
  first_line l m t = go (first_from test 0 (lines_of maker)) (first_from test 0 (lines_of site)) refl refl
    where
      go : (x y : Option Stretch) → first_from test 0 (lines_of maker) ≡ x → first_from test 0 (lines_of site) ≡ y → FirstShown test Says p maker site
      go (Some x) y e k =
          record {
            shown = of_maker x;
            found = rw e;
            line = first_in maker (λ l i. both_listed l (Contains-append_left (accepted_lines (lines_in newest_form maker)) (accepted_lines (lines_in newest_form site)) l i)) b.makers x (found test (lines_of maker) 0 x e);
          }
      go None (Some y) e k =
          record {
            shown = of_site y;
            found = rw (e, k);
            line = (
              λ line i l j s. none_found test (lines_of maker) 1 0 maker e l (b.makers line i l j) ((means l).1 s),
              first_in site (λ l i. both_listed l (Contains-append_right (accepted_lines (lines_in newest_form maker)) (accepted_lines (lines_in newest_form site)) l i)) b.sites y (found test (lines_of site) 0 y k),
            );
          }
      go None None e k =
          absurd (⊎_elim (λ i. none_found test (lines_of maker) 1 0 maker e l i t) (λ i. none_found test (lines_of site) 1 0 site k l i t)
          (Contains-append_cases (accepted_lines (lines_in newest_form maker)) (accepted_lines (lines_in newest_form site)) l m))
