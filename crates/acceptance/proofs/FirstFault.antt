-- A refused text has the first fault of its lines, a refused epoch line the first of its tests.
use Rattle.std.proofs.Common.{append-nil, ℕ, suc, ◌+◌, ◌≤◌, ◌<◌, List, [], ◌∷◌, ◌++◌, ◌⊎◌, inl, inr, ◌≡◌, refl, sym, ap, ap₂, ◌∙◌, arith, length, le-ltb, lt-ltb, ◌↔◌, Result, Ok, Err, Option, Some, None}
use Rattle.std.proofs.lemmas.Bool.{cases_lt}
use Rattle.std.proofs.lemmas.Bool.Decides.{nat_tests}
use Rattle.policy.specs.Fault.{refusal, within, in_text}
use Rattle.policy.specs.Limits.{line_limit}
use Rattle.syntax.specs.Judge.{line_answer}
use Rattle.policy.specs.Line.{PolicyLine, line_part, line_count}
use Rattle.policy.specs.Policy.{Policy}
use Rattle.policy.specs.declared.fault.Fault.{Fault}
use Rattle.policy.specs.declared.fault.Refusal.{Refusal}
use Rattle.policy.specs.declared.fault.Source.{Source}
use Rattle.lexer.specs.Lines.{lines_of}
use Rattle.rule_text.proofs.ReadLaws.{read_skipped, read_added, read_over, read_refused, first_read, first_refused}
use Rattle.rule_text.specs.Text.{with_line, read_line, read_lines, empty_policy, text_limit, read_text_behind, read_text, read_texts, policy_of}
use Rattle.epoch_line.specs.Epoch.{judge_epoch, read_epoch}
use Rattle.acceptance.proofs.OneLine.{Is, is_one, skipped_answer, accepted_answer, refused_answer}
use Rattle.acceptance.specs.FirstFault.{Takes, TakesAll, TextAccepted, LineFault, FirstFault, TextsFault, EpochFault}

-- ---- one line

module _ (form : ℕ) (p : Policy) (l : List ℕ) where
  here_taken : (q : Policy) → Takes form p l q → read_line form p l ≡ Ok q
  here_taken q (Takes.passed s) = read_skipped form p l (skipped_answer form l s)
  here_taken q (Takes.added x a k) = read_added form p l x (accepted_answer form l x a) (lt-ltb _ _ k)

  here_refused : (f : Fault) → LineFault form p l f → read_line form p l ≡ Err f
  here_refused f (LineFault.own g r) = read_refused form p l g (refused_answer form l g r)
  here_refused f (LineFault.one_more x a k) = read_over form p l x (accepted_answer form l x a) (le-ltb _ _ k)

-- each line is taken, or has a fault
here : (form : ℕ) (p : Policy) (l : List ℕ) → ((q : Policy) × Takes form p l q) ⊎ ((f : Fault) × LineFault form p l f)
here form p l = go (line_answer form l) (is_one form l)
  where
    go : (a : Result (Option PolicyLine) Fault) → Is form l a → ((q : Policy) × Takes form p l q) ⊎ ((f : Fault) × LineFault form p l f)
    go (Ok None) s = inl (p, Takes.passed s)
    go (Err f) r = inr (f, LineFault.own f r)
    go (Ok (Some x)) a =
        elim (cases_lt (line_count p (line_part x)) (line_limit (line_part x))) [
          | inl h ↦ inl (with_line p x, Takes.added x a h)
          | inr h ↦ inr (Fault.TooManyLines, LineFault.one_more x a h)
        ]

-- ---- the lines of a text behind a policy

-- those that are taken, with others behind them
taken_first : (form : ℕ) (ls rest : List (List ℕ)) (n : ℕ) (p q : Policy) → TakesAll form p ls q → read_lines form n p (ls ++ rest) ≡ read_lines form (n + length ls) q rest
unfolding TakesAll
taken_first form [] rest n p q e = ap₂ (λ (k : ℕ) (x : Policy). read_lines form k x rest) (omega arith) e
taken_first form (l ∷ ls) rest n p q t =
    grind (arith, here_taken form p l t.0 t.1, first_read form n p l (ls ++ rest) t.0, taken_first form ls rest (suc n) t.0 q t.2)

all_taken : (form : ℕ) (ls : List (List ℕ)) (n : ℕ) (p q : Policy) → TakesAll form p ls q → read_lines form n p ls ≡ Ok q
unfolding read_lines
all_taken form ls n p q t = sym (ap (read_lines form n p) (append-nil ls)) ∙ taken_first form ls [] n p q t

record First (form : ℕ) (p : Policy) (ls : List (List ℕ)) : Type 0 where
  before : List (List ℕ)
  line : List ℕ
  after : List (List ℕ)
  lines : ls ≡ before ++ line ∷ after
  policy : Policy
  taken : TakesAll form p before policy
  kind : Fault
  fault : LineFault form policy line kind

-- all are taken, or one is the first that is not
among : (form : ℕ) (ls : List (List ℕ)) (p : Policy) → ((q : Policy) × TakesAll form p ls q) ⊎ First form p ls
unfolding TakesAll
among form [] p = inl (p, refl)
among form (l ∷ ls) p =
    elim (here form p l) [
      | inr h ↦ inr (record { before = []; line = l; after = ls; lines = refl; policy = p; taken = refl; kind = h.0; fault = h.1 })
      | inl h ↦
          elim (among form ls h.0) [
            | inl t ↦ inl (t.0, (h.0, h.1, t.1))
            | inr f ↦
                inr
                (record {
                  before = l ∷ f.before;
                  line = f.line;
                  after = f.after;
                  lines = ap (λ (x : List (List ℕ)). l ∷ x) f.lines;
                  policy = f.policy;
                  taken = (h.0, h.1, f.taken);
                  kind = f.kind;
                  fault = f.fault;
                })
          ]
    ]

-- a text that is short enough
module _ (form : ℕ) (p : Policy) (text : List ℕ) (short : length text ≤ text_limit) where
  taken_behind : (q : Policy) → TakesAll form p (lines_of text) q → read_text_behind form p text ≡ Ok q
  unfolding read_text_behind
  taken_behind q t = rw (le-ltb _ _ short) (all_taken form (lines_of text) 1 p q t)

  first_behind : (f : Fault) (n : ℕ) → FirstFault form p text f n → read_text_behind form p text ≡ Err (refusal f n)
  unfolding read_text_behind
  first_behind f n t =
      let before = taken_first form t.before (t.line ∷ t.after) 1 p t.policy t.taken in
      let here = first_refused form (1 + length t.before) t.policy t.line t.after f (here_refused form t.policy t.line f t.fault) in grind (arith, nat_tests, t, before, here)

-- what reading a text behind a policy comes to, and why
data Comes (form : ℕ) (p : Policy) (text : List ℕ) : Type 0 where
  long : text_limit < length text → Comes form p text
  taken : length text ≤ text_limit → (q : Policy) → TakesAll form p (lines_of text) q → Comes form p text
  fails : length text ≤ text_limit → (f : Fault) (n : ℕ) → FirstFault form p text f n → Comes form p text

comes : (form : ℕ) (p : Policy) (text : List ℕ) → Comes form p text
comes form p text =
    elim (cases_lt text_limit (length text)) [
      | inl h ↦ Comes.long h
      | inr h ↦
          elim (among form (lines_of text) p) [
            | inl t ↦ Comes.taken h t.0 t.1
            | inr f ↦
                Comes.fails h f.kind (suc (length f.before))
                (record { before = f.before; line = f.line; after = f.after; lines = f.lines; number = refl; policy = f.policy; taken = f.taken; fault = f.fault })
          ]
    ]

long_behind : (form : ℕ) (p : Policy) (text : List ℕ) → text_limit < length text → read_text_behind form p text ≡ Err (refusal Fault.TooLong 0)
unfolding read_text_behind
long_behind form p text h = rw (lt-ltb _ _ h) refl

-- ---- one text

text_taken : (form : ℕ) (text : List ℕ) (p : Policy) → TextAccepted form text p → read_text form text ≡ Ok p
unfolding read_text
text_taken form text p a = ap (in_text Source.Maker) (taken_behind form empty_policy text a.short p a.taken)

pub text_accepted_exactly : (form : ℕ) (text : List ℕ) (p : Policy) → (policy_of form text ≡ Some p) ↔ TextAccepted form text p
unfolding read_text
text_accepted_exactly form text p = (λ h. go h (comes form empty_policy text), λ a. rw (text_taken form text p a))
  where
    go : policy_of form text ≡ Some p → Comes form empty_policy text → TextAccepted form text p
    go h (Comes.long k) = let z = long_behind form empty_policy text k in absurd (grind arith)
    go h (Comes.fails k f n t) = let z = first_behind form empty_policy text k f n t in absurd (grind arith)
    go h (Comes.taken k q t) = grind (arith, text_taken)

-- ---- two texts

module _ (form : ℕ) (maker site : List ℕ) where
  site_read : (p : Policy) → TextAccepted form maker p → read_texts form maker site ≡ in_text Source.Site (read_text_behind form p site)
  unfolding read_texts
  site_read p a = rw (text_taken form maker p a)

  maker_refused : (x : Refusal) → read_text_behind form empty_policy maker ≡ Err x → read_texts form maker site ≡ Err (within Source.Maker x)
  unfolding read_texts read_text
  maker_refused x e = rw e

  back : (r : Refusal) → TextsFault form maker site r → read_texts form maker site ≡ Err r
  back r (TextsFault.maker_long h) = maker_refused (refusal Fault.TooLong 0) (long_behind form empty_policy maker h)
  back r (TextsFault.in_maker h f n t) = maker_refused (refusal f n) (first_behind form empty_policy maker h f n t)
  back r (TextsFault.site_long p a h) = site_read p a ∙ ap (in_text Source.Site) (long_behind form p site h)
  back r (TextsFault.in_site p a h f n t) = site_read p a ∙ ap (in_text Source.Site) (first_behind form p site h f n t)

  abbrev IsAnswer : Result Policy Refusal → Type 0
  IsAnswer (Ok p) = Unit {0}
  IsAnswer (Err r) = TextsFault form maker site r

  told : (r : Refusal) → TextsFault form maker site r → IsAnswer (read_texts form maker site)
  told r t = rw (back r t) t

  is_answer : IsAnswer (read_texts form maker site)
  is_answer = makers (comes form empty_policy maker)
    where
      sites : (p : Policy) → TextAccepted form maker p → Comes form p site → IsAnswer (read_texts form maker site)
      sites p a (Comes.long k) = told _ (TextsFault.site_long p a k)
      sites p a (Comes.fails k f n t) = told _ (TextsFault.in_site p a k f n t)
      sites p a (Comes.taken k q t) = rw (site_read p a, taken_behind form p site k q t) tt

      makers : Comes form empty_policy maker → IsAnswer (read_texts form maker site)
      makers (Comes.long k) = told _ (TextsFault.maker_long k)
      makers (Comes.fails k f n t) = told _ (TextsFault.in_maker k f n t)
      makers (Comes.taken k p t) = sites p (record { short = k; taken = t }) (comes form p site)

  pub texts_refused_exactly : (r : Refusal) → (read_texts form maker site ≡ Err r) ↔ TextsFault form maker site r
  texts_refused_exactly r = (λ h. rw h at is_answer, back r)

-- ---- an epoch line

module _ (line : List ℕ) (r : Refusal) where
  epoch_there : read_epoch line ≡ Err r → EpochFault line r
  unfolding read_epoch judge_epoch
  epoch_there h = grind (arith, EpochFault.too_long, EpochFault.wrong_shape, EpochFault.out_of_range, EpochFault.given_twice)

  epoch_back : EpochFault line r → read_epoch line ≡ Err r
  unfolding read_epoch judge_epoch
  epoch_back f = grind (arith, lt-ltb, le-ltb)

  pub epoch_refused_exactly : (read_epoch line ≡ Err r) ↔ EpochFault line r
  epoch_refused_exactly = (epoch_there, epoch_back)
