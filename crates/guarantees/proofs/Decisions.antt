-- What holds of every decision: when it is refused and what it then carries, that it is what the image's policy yields in the first
-- mode, and that an image in which one word was changed is refused. Of the second mode speaks Reductions.
use Rattle.std.proofs.Common.{ℕ, zero, suc, ◌+◌, ◌<◌, ◌≤◌, Bool, true, false, List, [], map, ◌⊎◌, inl, inr, ⊎_elim, ◌↔◌, ◌≡◌, refl, sym, ap, ◌∙◌, arith, length, Ok, Err}
use Rattle.std.proofs.lemmas.List.Folds.{list_all-map}
use Rattle.policy.proofs.ListLaws.{all_out}
use Rattle.policy.proofs.ValidLaws.{valid_out}
use Rattle.policy.specs.declared.epoch.Epoch.{Epoch}
use Rattle.policy.specs.Fault.{fault_number, refusal}
use Rattle.policy.specs.declared.fault.Fault.{Fault}
use Rattle.policy.specs.Limits.{valid, Acceptable}
use Rattle.policy.specs.Line.{constraint, heads_of}
use Rattle.std.specs.List.{list_all}
use Rattle.policy.specs.Policy.{Policy, Constraint}
use Rattle.policy.specs.Set.{ActionSet, EventSet, no_actions, meets}
use Rattle.policy.specs.declared.fault.Refusal.{Refusal}
use Rattle.policy.specs.declared.line.Test.{Test}
use Rattle.policy.specs.declared.mode.Mode.{Mode}
use Rattle.policy.specs.declared.number.Action.{Action}
use Rattle.pdl.proofs.Monitor.{accepted_with_cancelled, cancelled_apart, cancelled_trial, giving_back_violates, maximal_cancellation, nothing_cancelled}
use Rattle.pdl.proofs.BestLaws.{accepted_best, accepted_only_best}
use Rattle.pdl.specs.Answer.{issues}
use Rattle.pdl.specs.Pdl.{NameActions}
use Rattle.pdl.specs.Yield as Yield
use Rattle.pdl.specs.Yield.{proposed, triggered, with_pending, names_reserved, cancelled}
use Rattle.acceptance.proofs.Refusals.{epoch_faults}
use Rattle.acceptance.specs.Refusals.{OfEpoch}
use Rattle.epoch_line.specs.Epoch.{read_epoch}
use Rattle.word.specs.Word.{Bytes, word_limit, words_of, word_at}
use Rattle.image.specs.Held.{policy_in}
use Rattle.layout.specs.Layout.{known_form, image_of}
use Rattle.image.specs.Load.{load, Contents}
use Rattle.exactness.proofs.Exact.{refusals, took, image_taken, one_word_changed}
use Rattle.exactness.proofs.Swaps.{written_swapped}
use Rattle.image.specs.Check.{rule_words, constraint_words}
use Rattle.exactness.specs.Exact.{contents_of, changed, exchanged, exchange_fault, Checked, RefusalOf}
use Rattle.meaning.proofs.Decided.{names_is, reserved_refuses, decided_is, image_bounded}
use Rattle.meaning.proofs.Taken.{Implements, written_implements, taken_implements}
use Rattle.monitor.proofs.DecideLaws.{image_refused, line_refused}
use Rattle.monitor.specs.Decision.{visited_by, actions_of, reduction_by, decided_by, reserved_in, on_image, decision_in, decision, pending_after, answer_of}
use Rattle.guarantees.proofs.NextLaws.{Next, next_out, next_refused, names_triggered, triggered_named}
use Rattle.guarantees.specs.Machine.{next_epoch}
use Rattle.guarantees.specs.Decisions.{RefusedFor, the_image, the_line, the_reserved, OfDecision, NamesTriggered, CheckFailed, RefusedUnder, NotRefused, yield_of, Obeys, IsBest}

-- ---- refusals

module _ (mode : Mode) (image : List ℕ) (bounded : Bytes image) (pending : EventSet) (line : List ℕ) (r : Refusal) where
  implements : (contents : Contents) → load image ≡ Ok contents → Implements image contents (policy_in image)
  implements contents t = taken_implements image bounded contents t

  -- what is refused for the image or the line, in either mode
  pub refused_for : RefusedFor image line r → decision_in mode image pending line ≡ Err r
  refused_for (the_image q) = sym (image_refused mode image pending line r q)
  refused_for (the_line contents t q) = sym (line_refused mode image pending line contents t r q)
  refused_for (the_reserved contents t e q n w) = reserved_refuses image contents (policy_in image) (implements contents t) mode pending line e q n ∙ ap Err (sym w)

  -- a refusal that has no such reason is that of an epoch
  pub record OfEpochAlone : Type 0 where
    pub contents : Contents
    pub taken : load image ≡ Ok contents
    pub named : Epoch
    pub read : read_epoch line ≡ Ok named
    pub free : names_reserved (policy_in image).rules named ≡ false
    pub refused : decided_by mode contents (with_pending pending named) ≡ Err r

  pub refused_cases : decision_in mode image pending line ≡ Err r → RefusedFor image line r ⊎ OfEpochAlone
  unfolding decision_in on_image
  refused_cases h = elim told [
    | inl q ↦ inl (the_image q)
    | inr (contents, t, inl q) ↦ inl (the_line contents t q)
    | inr (contents, t, inr (inl (e, q, k, w))) ↦ inl (the_reserved contents t e q (names contents e t k) w)
    | inr (contents, t, inr (inr (e, q, k, w))) ↦ inr (record { contents = contents; taken = t; named = e; read = q; free = names contents e t k; refused = w })
  ]
    where
      names : {b : Bool} (contents : Contents) (e : Epoch) → load image ≡ Ok contents → meets (reserved_in contents) e.events ≡ b → names_reserved (policy_in image).rules e ≡ b
      names contents e t k = sym (names_is image contents (policy_in image) (implements contents t) e) ∙ k

      told : (load image ≡ Err r) ⊎ ((c : Contents) × (load image ≡ Ok c) × ((read_epoch line ≡ Err r) ⊎ (((e : Epoch) × (read_epoch line ≡ Ok e) × (meets (reserved_in c) e.events ≡ true) × (r ≡ refusal Fault.ReservedEvent 0))
          ⊎ ((e : Epoch) × (read_epoch line ≡ Ok e) × (meets (reserved_in c) e.events ≡ false) × (decided_by mode c (with_pending pending e) ≡ Err r)))))
      told = grind arith

-- under which faults, at which locations
pub either_faults : (image line : List ℕ) (r : Refusal) → RefusedFor image line r → OfDecision (length (words_of image)) r
either_faults image line r h = grind (arith, refusals, epoch_faults)

-- whatever was handed over, the sets of a refusal are empty, in either mode
pub refused_empty : (mode : Mode) (image : List ℕ) (pending : EventSet) (line : List ℕ) → (answer_of (decision_in mode image pending line)).is_refused ≡ true
    → ((answer_of (decision_in mode image pending line)).accepted ≡ no_actions) × ((answer_of (decision_in mode image pending line)).cancelled ≡ no_actions)
refused_empty mode image pending line h = grind arith

-- ---- what the image's policy yields

pub not_refused : {s t : ActionSet} → NotRefused (issues s t)
not_refused = record { is_refused = refl; number = refl; text = refl; location = refl }

has_action_is : (c : Constraint) → valid (constraint c) ≡ true → ¬ (c.actions ≡ [])
unfolding heads_of
has_action_is c v q =
    absurd (omega (arith, (valid_out (constraint c) v).some, ap (λ (actions : List Action). length (map Test.Member actions)) q))

name_actions : (cs : List Constraint) → list_all valid (map constraint cs) ≡ true → NameActions cs
name_actions cs v c m = has_action_is c (all_out (λ (x : Constraint). valid (constraint x)) cs (sym (list_all-map valid constraint cs) ∙ v) c m)

-- what a policy accepts is the best of all sets of proposed actions on which no constraint holds
accepted_is_best : (p : Policy) (e : Epoch) → NameActions p.constraints → IsBest p e (Yield.accepted p e)
accepted_is_best p e named =
    record { lowest = accepted_best p e; best = (accepted_only_best p e named (Yield.accepted p e)).1 refl; only = λ s. (accepted_only_best p e named s).0 }

module _ (image : List ℕ) (contents : Contents) (p : Policy) (does : Implements image contents p) where
  -- on a line that is refused, in either mode
  pub does_refuse : (mode : Mode) (pending : EventSet) (line : List ℕ) (r : Refusal) → next_epoch p pending line ≡ Err r → decision_in mode image pending line ≡ Err r
  does_refuse mode pending line r h = grind (arith, next_refused, line_refused, reserved_refuses)

  module _ (pending : EventSet) (line : List ℕ) (e : Epoch) (next : next_epoch p pending line ≡ Ok e) where
    n : Next p pending line e
    n = next_out p pending line e next

    -- the decision is what the policy yields
    pub decided_yields : decision image pending line
        ≡ Ok (actions_of (proposed p.rules e) (Yield.accepted p e) (triggered p.rules e) (visited_by contents.parts.rules contents.parts.constraints e))
    decided_yields = grind (arith, decided_is, n)

    pub holds_policy : answer_of (decision image pending line) ≡ yield_of p e
    unfolding cancelled
    holds_policy = ap answer_of decided_yields

    -- and so it is a maximal action cancellation of what it proposes
    pub obeys_policy : Obeys p e (answer_of (decision image pending line))
    obeys_policy = rw holds_policy (record {
      issued = not_refused;
      maximal = maximal_cancellation p (name_actions p.constraints does.acceptable.constraints_valid) e;
      rest = accepted_with_cancelled p e;
      apart = cancelled_apart p e;
      giving_back = giving_back_violates p e;
      lowest_first = cancelled_trial p e;
      conservative = nothing_cancelled p e;
    })

    pub best_policy : IsBest p e (answer_of (decision image pending line)).accepted
    best_policy = rw holds_policy (accepted_is_best p e (name_actions p.constraints does.acceptable.constraints_valid))

-- of an image that is taken, by the policy that it holds
pub held_best : (image : List ℕ) → Bytes image → (contents : Contents) → load image ≡ Ok contents → (pending : EventSet) (line : List ℕ) (e : Epoch)
    → next_epoch (policy_in image) pending line ≡ Ok e → IsBest (policy_in image) e (answer_of (decision image pending line)).accepted
held_best image bounded contents taken = best_policy image contents (policy_in image) (taken_implements image bounded contents taken)

-- ---- one word changed

-- bytes that pass the checks 7 to 10, with any other value in the place of one word, are refused whatever the line and its mode
pub image_changed : (image : List ℕ) → Bytes image → Checked image
    → (i v : ℕ) → i < length (words_of image) → v < word_limit → ¬ (v ≡ word_at image i)
    → (mode : Mode) (pending : EventSet) (line : List ℕ) → CheckFailed (answer_of (decision_in mode (changed image i v) pending line))
image_changed image bounded ok i v l small other mode pending line =
    let r = one_word_changed image bounded ok i v l small other in
    rw (← image_refused mode (changed image i v) pending line (refusal r.fault 0) r.refused)
    (record { is_refused = refl; from = r.from; upto = r.upto; text = refl; location = refl; accepts = refl; cancels = refl })

-- an image that is refused under a fault at location 0 is refused so whatever the line and its mode
pub refused_under : (image : List ℕ) (f : Fault) → load image ≡ Err (refusal f 0) → (mode : Mode) (pending : EventSet) (line : List ℕ) → RefusedUnder (fault_number f) (answer_of (decision_in mode image pending line))
refused_under image f e mode pending line = grind (arith, image_refused)

-- ---- the image of a policy that an accepted text may have

module _ (form : ℕ) (known : known_form form ≡ true) (p : Policy) (ok : Acceptable form p) where
  -- on a line that is refused, in either mode
  pub written_refused : (mode : Mode) (pending : EventSet) (line : List ℕ) (r : Refusal) → next_epoch p pending line ≡ Err r → decision_in mode (image_of form p) pending line ≡ Err r
  written_refused = does_refuse (image_of form p) (contents_of form p) p (written_implements form known p ok)

  -- on a line that is an epoch it decides what the policy yields
  pub written_yields : (pending : EventSet) (line : List ℕ) (e : Epoch) → next_epoch p pending line ≡ Ok e → answer_of (decision (image_of form p) pending line) ≡ yield_of p e
  written_yields = holds_policy (image_of form p) (contents_of form p) p (written_implements form known p ok)

  -- and the events are pending that it triggers
  pub written_triggers : (pending : EventSet) (line : List ℕ) (e : Epoch) → next_epoch p pending line ≡ Ok e → pending_after pending (decision (image_of form p) pending line) ≡ triggered p.rules e
  unfolding pending_after
  written_triggers pending line e h = ap (pending_after pending) (decided_yields (image_of form p) (contents_of form p) p (written_implements form known p ok) pending line e h)

  pub written_obeys : (pending : EventSet) (line : List ℕ) (e : Epoch) → next_epoch p pending line ≡ Ok e → Obeys p e (answer_of (decision (image_of form p) pending line))
  written_obeys = obeys_policy (image_of form p) (contents_of form p) p (written_implements form known p ok)

  pub written_best : (pending : EventSet) (line : List ℕ) (e : Epoch) → next_epoch p pending line ≡ Ok e → IsBest p e (answer_of (decision (image_of form p) pending line)).accepted
  written_best = best_policy (image_of form p) (contents_of form p) p (written_implements form known p ok)

  -- with any other value in the place of one word it is refused whatever the line and its mode
  pub written_changed : (i v : ℕ) → i < length (words_of (image_of form p)) → v < word_limit → ¬ (v ≡ word_at (image_of form p) i)
      → (mode : Mode) (pending : EventSet) (line : List ℕ) → CheckFailed (answer_of (decision_in mode (changed (image_of form p) i v) pending line))
  written_changed = image_changed (image_of form p) (image_bounded form known p ok) (took (image_of form p) (contents_of form p) (image_taken form known p ok)).checked.checked

  -- with two neighbours in each other's place, in a form that has a weighted word
  pub written_exchanged : (form ≡ 1 → ⊥) → (i : ℕ) → i + 1 ≤ rule_words (words_of (image_of form p)) + constraint_words (words_of (image_of form p))
      → (word_at (image_of form p) i ≡ word_at (image_of form p) (i + 1) → ⊥)
      → (mode : Mode) (pending : EventSet) (line : List ℕ) → RefusedUnder (fault_number (exchange_fault i)) (answer_of (decision_in mode (exchanged (image_of form p) i) pending line))
  written_exchanged newer zero inside differ = refused_under _ Fault.ImageForm (written_swapped form known newer p ok 0 inside differ)
  written_exchanged newer (suc i) inside differ = refused_under _ Fault.ImageWeightedSum (written_swapped form known newer p ok (suc i) inside differ)

-- ---- fault 18

not_of_image : (words : ℕ) → RefusalOf words (refusal Fault.ReservedEvent 0) → ⊥
not_of_image words x = grind arith

not_of_epoch : OfEpoch (refusal Fault.ReservedEvent 0) → ⊥
not_of_epoch o = cc

not_decided : (mode : Mode) (contents : Contents) (e : Epoch) → decided_by mode contents e ≡ Err (refusal Fault.ReservedEvent 0) → ⊥
unfolding decided_by reduction_by
not_decided mode contents e h = grind arith

pub reserved_refused : (mode : Mode) (image : List ℕ) (pending : EventSet) (line : List ℕ) → Bytes image → (decision_in mode image pending line ≡ Err (refusal Fault.ReservedEvent 0)) ↔ NamesTriggered image line
reserved_refused mode image pending line bounded = (there, back)
  where
    r : Refusal
    r = refusal Fault.ReservedEvent 0

    there : decision_in mode image pending line ≡ Err r → NamesTriggered image line
    there h = ⊎_elim named (λ a. absurd (not_decided mode a.contents (with_pending pending a.named) a.refused)) (refused_cases mode image bounded pending line r h)
      where
        named : RefusedFor image line r → NamesTriggered image line
        named (the_image q) = absurd (not_of_image _ (refusals image r q))
        named (the_line contents t q) = absurd (not_of_epoch (epoch_faults line r q))
        named (the_reserved contents t e q n w) =
            let m = names_triggered (policy_in image) line e q n in
            record { contents = contents; taken = t; epoch = e; read = q; event = m.event; named = m.in_line; rule = m.rule; listed = m.listed; triggers = m.triggers }

    back : NamesTriggered image line → decision_in mode image pending line ≡ Err r
    back m =
        refused_for mode image bounded pending line r
        (the_reserved m.contents m.taken m.epoch m.read
        (triggered_named (policy_in image) line m.epoch m.read (record { event = m.event; in_line = m.named; rule = m.rule; listed = m.listed; triggers = m.triggers })) refl)
