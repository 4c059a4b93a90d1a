-- On the image of a text, or of two as one, the decisions are those of the reference machine on the text, and an image with
-- one word changed is refused.
use Rattle.policy.specs.declared.fault.Refusal.{Refusal}
use Rattle.std.proofs.Common.{ℕ, ◌+◌, ◌^◌, ◌<◌, ◌≤◌, true, false, List, [], ◌∷◌, ◌↔◌, ◌≡◌, refl, sym, ap, ◌∙◌, arith, length, Ok, Err, Option, Some, set, swap}
use Rattle.std.proofs.Math.Path.{subst⁻¹}
use Rattle.policy.specs.declared.epoch.Epoch.{Epoch}
use Rattle.policy.specs.Fault.{fault_number, refusal}
use Rattle.policy.specs.Limits.{Acceptable}
use Rattle.policy.specs.Number.{set_limit}
use Rattle.policy.specs.Policy.{Policy}
use Rattle.policy.specs.Set.{EventSet, all_events, keeping, no_events, has_event}
use Rattle.policy.specs.declared.number.Event.{Event}
use Rattle.pdl.proofs.Proposals.{triggers_derived}
use Rattle.policy.specs.declared.fault.Fault.{Fault}
use Rattle.policy.specs.declared.mode.Mode.{Mode}
use Rattle.rule_text.specs.Text.{policy_of, policy_of_texts}
use Rattle.exactness.proofs.Exact.{changed_words, changed_length}
use Rattle.exactness.proofs.Swaps.{exchanged_length, exchanged_words}
use Rattle.exactness.specs.Exact.{changed, exchanged, exchange_fault, exchange_fault}
use Rattle.image.specs.Check.{rule_words, constraint_words}
use Rattle.word.proofs.WordLaws.{bytes_length, bytes_below}
use Rattle.word.specs.Word.{word_limit, words_of, word_at}
use Rattle.layout.specs.Layout.{known_form, image_of}
use Rattle.codegen.proofs.Compilation.{image_written, texts_written}
use Rattle.codegen.proofs.CompileLaws.{compiled_alone}
use Rattle.pdl.specs.Pdl.{Reducible}
use Rattle.pdl.specs.Reduction.{proposed_with, kept_events, kept_triggers}
use Rattle.guarantees.proofs.Decisions.{written_refused, written_yields, written_triggers, written_obeys, written_best, written_changed, written_exchanged}
use Rattle.guarantees.proofs.Reductions.{written_reduces, written_events_trigger, written_conflict, written_obeys_events}
use Rattle.monitor.specs.Decision.{decision_in, decision, advanced, pending_after, answer_of}
use Rattle.guarantees.specs.Decisions.{CheckFailed, RefusedUnder, IsTriggered, Obeys, IsBest, ObeysEvents}
use Rattle.guarantees.specs.Claims.{CompilesTo, TextsCompileTo, answers_from, pending_from, answers, pending_behind}
use Rattle.guarantees.specs.Machine.{next_epoch, yield_in, triggered_in, answer, step, set_after, next_set, steps, set_behind, ToldLine, machine_of, set_of_machine, machine, machine_set, machine_of_texts, machine_set_of_texts}

-- the image is that of the policy in this form, and there are both
pub record ImageOf (form : ℕ) (known : Option Policy) (image : List ℕ) : Type 0 where
  pub form_known : known_form form ≡ true
  pub policy : Policy
  pub read : known ≡ Some policy
  pub acceptable : Acceptable form policy
  pub same : image ≡ image_of form policy

pub image_of_text : (form : ℕ) (text image : List ℕ) → CompilesTo form text image → ImageOf form (policy_of form text) image
image_of_text form text image c =
    let w = image_written form text c.buffer c.size c.accepted in
    record { form_known = w.form_known; policy = w.policy; read = w.read; acceptable = w.acceptable; same = sym c.written ∙ w.image }

pub image_of_texts : (form : ℕ) (maker site image : List ℕ) → TextsCompileTo form maker site image → ImageOf form (policy_of_texts form maker site) image
image_of_texts form maker site image c =
    let w = texts_written form maker site c.buffer c.size c.accepted in
    record { form_known = w.form_known; policy = w.policy; read = w.read; acceptable = w.acceptable; same = sym c.written ∙ w.image }

-- the call on a text is the call on it and an empty site's text
pub alone_writes : (form : ℕ) (text image : List ℕ) → CompilesTo form text image ↔ TextsCompileTo form text [] image
alone_writes form text image = grind (arith, compiled_alone)

module _ (form : ℕ) (form_known : known_form form ≡ true) (p : Policy) (ok : Acceptable form p) where
  pub same_answer : (mode : Mode) (pending : EventSet) (line : List ℕ) → answer_of (decision_in mode (image_of form p) pending line) ≡ step mode p pending line
  unfolding step answer yield_in
  same_answer mode pending line =
      grind (arith, written_refused form form_known p ok mode pending line, written_yields form form_known p ok pending line, written_reduces form form_known p ok pending line)

  -- and the events that are pending behind it are the machine's set
  pub same_pending : (mode : Mode) (pending : EventSet) (line : List ℕ) → pending_after pending (decision_in mode (image_of form p) pending line) ≡ next_set mode p pending line
  unfolding next_set set_after yield_in triggered_in pending_after
  same_pending mode pending line = grind (arith, written_refused, written_triggers, written_events_trigger)

  same_answers : (lines : List ToldLine) (pending : EventSet) → answers_from (image_of form p) pending lines ≡ steps p pending lines
  unfolding answers_from steps advanced
  same_answers [] pending = refl
  same_answers (x ∷ xs) pending = grind (arith, same_answer x.mode pending x.line, same_pending x.mode pending x.line, same_answers xs)

  same_sets : (lines : List ToldLine) (pending : EventSet) → pending_from (image_of form p) pending lines ≡ set_behind p pending lines
  unfolding pending_from set_behind advanced
  same_sets [] pending = refl
  same_sets (x ∷ xs) pending = grind (arith, same_pending x.mode pending x.line, same_sets xs)

module _ (form : ℕ) (known : Option Policy) (image : List ℕ) (t : ImageOf form known image) where
  agrees : (lines : List ToldLine) → Some (answers image lines) ≡ machine_of known lines
  unfolding machine_of
  agrees lines = rw (t.same, t.read, same_answers form t.form_known t.policy t.acceptable lines no_events)

  keeps : (lines : List ToldLine) → Some (pending_behind image lines) ≡ set_of_machine known lines
  unfolding set_of_machine
  keeps lines = rw (t.same, t.read, same_sets form t.form_known t.policy t.acceptable lines no_events)

  -- with any other value in the place of any one word, the decision on every line is refused under one of 7 to 10, at the location 0
  -- and with empty sets
  pub refuses_change : (i v : ℕ) → i < length (words_of image) → v < word_limit → ¬ (v ≡ word_at image i) → (mode : Mode) (pending : EventSet) (line : List ℕ) → CheckFailed (answer_of (decision_in mode (changed image i v) pending line))
  refuses_change = rw t.same (written_changed form t.form_known t.policy t.acceptable)

  -- the changed bytes are as many, and their words are those of the image but for that one
  pub changes_one : (i v : ℕ) → v < word_limit → (length (changed image i v) ≡ length image) × (words_of (changed image i v) ≡ set (words_of image) i v)
  unfolding image_of
  changes_one i v h = grind (arith, bytes_length, changed_length, changed_words, bytes_below)

  -- two neighbours in each other's place
  pub refuses_swap : (form ≡ 1 → ⊥) → (i : ℕ) → i + 1 ≤ rule_words (words_of image) + constraint_words (words_of image) → (word_at image i ≡ word_at image (i + 1) → ⊥)
      → (mode : Mode) (pending : EventSet) (line : List ℕ) → RefusedUnder (fault_number (exchange_fault i)) (answer_of (decision_in mode (exchanged image i) pending line))
  refuses_swap newer = rw t.same (written_exchanged form t.form_known t.policy t.acceptable newer)

  pub exchanges_two : (i : ℕ) → i + 1 < length (words_of image) → (length (exchanged image i) ≡ length image) × (words_of (exchanged image i) ≡ swap (words_of image) i (i + 1))
  unfolding image_of
  exchanges_two i h = grind (arith, bytes_length, exchanged_length, exchanged_words, bytes_below)

  module _ (p : Policy) (q : known ≡ Some p) (pending : EventSet) (line : List ℕ) (e : Epoch) (next : next_epoch p pending line ≡ Ok e) where
    same_policy : p ≡ t.policy
    same_policy = cc (q, t.read)

    next_here : next_epoch t.policy pending line ≡ Ok e
    next_here = rw (← same_policy) next

    -- a decision that is not refused is a maximal action cancellation of what the texts' rules propose
    pub obeys : Obeys p e (answer_of (decision image pending line))
    obeys = rw (t.same, same_policy) (written_obeys form t.form_known t.policy t.acceptable pending line e next_here)

    -- and it accepts the best of all sets of proposed actions on which no constraint holds
    pub accepts_best : IsBest p e (answer_of (decision image pending line)).accepted
    accepts_best = rw (t.same, same_policy) (written_best form t.form_known t.policy t.acceptable pending line e next_here)

    -- in the second mode a decision is refused under 17 exactly if no reduction of the epoch is free of conflict
    pub conflict_refused : (decision_in Mode.Events image pending line ≡ Err (refusal Fault.Unavoidable 0)) ↔ ¬ Reducible p.constraints (proposed_with p.rules) e
    conflict_refused = rw (t.same, same_policy) (written_conflict form t.form_known t.policy t.acceptable pending line e next_here)

    -- otherwise the kept events are a maximal such reduction, and what they propose is issued
    pub obeys_events : pending.bits < 2 ^ set_limit → Reducible p.constraints (proposed_with p.rules) e → ObeysEvents p e (kept_events p e) (answer_of (decision_in Mode.Events image pending line))
    obeys_events = rw (t.same, same_policy) (written_obeys_events form t.form_known t.policy t.acceptable pending line e next_here)

    -- behind an accepted epoch those events are pending that its rules trigger
    triggers_pending : (mode : Mode) → (answer_of (decision_in mode image pending line)).is_refused ≡ false → (advanced mode image pending line).pending ≡ triggered_in mode p e
    unfolding advanced next_set set_after step answer
    triggers_pending mode h = grind (arith, same_answer, same_pending, next_here, same_policy)

-- ---- the first half

-- on the bytes that the compiler wrote for a text, the answers for every list of epoch lines with the mode of each, refused ones
-- included, are those of the reference machine on the text: as many, and each the same in every field
pub decisions_agree : (form : ℕ) (text image : List ℕ) → CompilesTo form text image → (lines : List ToldLine) → Some (answers image lines) ≡ machine form text lines
decisions_agree form text image c = agrees form (policy_of form text) image (image_of_text form text image c)

-- the same for the maker's and the site's text
pub texts_decisions_agree : (form : ℕ) (maker site image : List ℕ) → TextsCompileTo form maker site image → (lines : List ToldLine) → Some (answers image lines) ≡ machine_of_texts form maker site lines
texts_decisions_agree form maker site image c = agrees form (policy_of_texts form maker site) image (image_of_texts form maker site image c)

-- behind every such list the events that are pending are exactly the machine's set
pub pending_agrees : (form : ℕ) (text image : List ℕ) → CompilesTo form text image → (lines : List ToldLine) → Some (pending_behind image lines) ≡ machine_set form text lines
pending_agrees form text image c = keeps form (policy_of form text) image (image_of_text form text image c)

pub texts_pending_agrees : (form : ℕ) (maker site image : List ℕ) → TextsCompileTo form maker site image → (lines : List ToldLine) → Some (pending_behind image lines) ≡ machine_set_of_texts form maker site lines
texts_pending_agrees form maker site image c = keeps form (policy_of_texts form maker site) image (image_of_texts form maker site image c)

-- ---- what is pending behind a decision on the image of two texts

module _ (form : ℕ) (maker site image : List ℕ) (c : TextsCompileTo form maker site image) (p : Policy) (read : policy_of_texts form maker site ≡ Some p) where
  -- behind an accepted epoch exactly the events are pending that its rules trigger, or by events those of the kept events
  pub pending_triggered : (mode : Mode) (pending : EventSet) (line : List ℕ) (e : Epoch) → next_epoch p pending line ≡ Ok e → (answer_of (decision_in mode image pending line)).is_refused ≡ false
      → (x : Event) → x.0 < set_limit → (has_event (advanced mode image pending line).pending x ≡ true) ↔ IsTriggered mode p e x
  unfolding triggered_in kept_triggers
  pending_triggered mode pending line e next h x small =
      let is = triggers_pending form (policy_of_texts form maker site) image (image_of_texts form maker site image c) p read pending line e next mode h in
      subst⁻¹ (λ (s : EventSet). (has_event s x ≡ true) ↔ IsTriggered mode p e x) is (derived mode)
    where
      derived : (m : Mode) → (has_event (triggered_in m p e) x ≡ true) ↔ IsTriggered m p e x
      derived Mode.Actions = triggers_derived p.rules (all_events e.events) e.readings x small
      derived Mode.Events = triggers_derived p.rules (keeping e.events (kept_events p e)) e.readings x small

-- a refused decision leaves what is pending
pub refused_leaves_pending : (mode : Mode) (image : List ℕ) (pending : EventSet) (line : List ℕ) (r : Refusal) → decision_in mode image pending line ≡ Err r → (advanced mode image pending line).pending ≡ pending
unfolding advanced pending_after
refused_leaves_pending mode image pending line r h = ap (pending_after pending) h
