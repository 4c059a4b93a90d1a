-- What holds of every decision in the second mode, that of event cancellation. It is what the image's policy yields, the kept events
-- are a maximal reduction free of conflict, and it is refused for a conflict exactly where there is none.
use Rattle.std.proofs.Common.{ℕ, ◌<◌, ◌^◌, true, false, List, ◌↔◌, ⊎_elim, ◌≡◌, refl, sym, ap, ◌∙◌, subst, arith, length, Ok, Err}
use Rattle.policy.specs.declared.epoch.Epoch.{Epoch}
use Rattle.policy.specs.Fault.{refusal}
use Rattle.policy.specs.Limits.{Acceptable}
use Rattle.policy.specs.Policy.{Policy}
use Rattle.policy.specs.Epoch.{InAlphabet}
use Rattle.policy.specs.Set.{EventSet}
use Rattle.policy.specs.declared.fault.Fault.{Fault}
use Rattle.policy.specs.declared.fault.Refusal.{Refusal}
use Rattle.policy.specs.declared.mode.Mode.{Mode}
use Rattle.pdl.proofs.Reduction.{unavoidable_exactly, reducible_avoids, kept_maximal, issued_within, issued_satisfies, issued_with_withheld, withheld_apart, giving_back_clashes, dropped_trial, all_kept, nothing_withheld}
use Rattle.pdl.specs.Answer.{issues}
use Rattle.pdl.specs.Pdl.{Reducible}
use Rattle.pdl.specs.Reduction.{proposed_with, kept_events, issued, withheld, unavoidable}
use Rattle.pdl.specs.Yield.{with_pending}
use Rattle.acceptance.proofs.Alphabet.{line_inside}
use Rattle.word.specs.Word.{Bytes, words_of}
use Rattle.image.specs.Held.{policy_in}
use Rattle.image.specs.Load.{load, Contents}
use Rattle.layout.specs.Layout.{known_form, image_of}
use Rattle.exactness.specs.Exact.{contents_of}
use Rattle.meaning.proofs.Decided.{reduction_of, events_decided_are}
use Rattle.meaning.proofs.Taken.{Implements, written_implements, taken_implements}
use Rattle.monitor.specs.Decision.{tried_event_words, decided_by, decision_in, pending_after, answer_of}
use Rattle.guarantees.proofs.Decisions.{OfEpochAlone, refused_for, refused_cases, either_faults, not_refused}
use Rattle.guarantees.proofs.NextLaws.{Next, next_out, next_in}
use Rattle.policy.proofs.SetLaws.{union_limit}
use Rattle.guarantees.specs.Machine.{next_epoch, yield_in, triggered_in, set_after}
use Rattle.guarantees.specs.Decisions.{RefusedIn, as_first, for_conflict, OfDecisionIn, of_either, of_conflict, ObeysEvents}

-- ---- what a policy decides in this mode

module _ (p : Policy) (e : Epoch) (words : ℕ) where
  answer_is : answer_of (reduction_of p e words) ≡ yield_in Mode.Events p e
  unfolding yield_in withheld
  answer_is = grind arith

  refuses_out : (r : Refusal) → reduction_of p e words ≡ Err r → (unavoidable p e ≡ true) × (r ≡ refusal Fault.Unavoidable 0)
  refuses_out r h = grind arith

  refuses_in_is : unavoidable p e ≡ true → reduction_of p e words ≡ Err (refusal Fault.Unavoidable 0)
  refuses_in_is h = rw h

  issued_is : unavoidable p e ≡ false → yield_in Mode.Events p e ≡ issues (issued p e) (withheld p e)
  unfolding yield_in
  issued_is h = rw h

-- ---- an image that is taken

module _ (image : List ℕ) (contents : Contents) (p : Policy) (does : Implements image contents p) where
  module _ (pending : EventSet) (line : List ℕ) (e : Epoch) (next : next_epoch p pending line ≡ Ok e) where
    n : Next p pending line e
    n = next_out p pending line e next

    abbrev words : ℕ
    words = tried_event_words contents.parts.rules contents.parts.constraints e

    pub decided : decision_in Mode.Events image pending line ≡ reduction_of p e words
    decided = grind (arith, events_decided_are, n, reduction_of)

    -- the decision is what the policy yields
    pub reduces_policy : answer_of (decision_in Mode.Events image pending line) ≡ yield_in Mode.Events p e
    reduces_policy = ap answer_of decided ∙ answer_is p e words

    -- it is refused for a conflict exactly if no reduction of the epoch is free of conflict
    pub conflict_exactly : (decision_in Mode.Events image pending line ≡ Err (refusal Fault.Unavoidable 0)) ↔ ¬ Reducible p.constraints (proposed_with p.rules) e
    conflict_exactly = grind (arith, unavoidable_exactly, refuses_out, decided, refuses_in_is)

    -- otherwise the kept events are a maximal such reduction, and what they propose is issued
    pub obeys_events : pending.bits < 2 ^ 64 → Reducible p.constraints (proposed_with p.rules) e → ObeysEvents p e (kept_events p e) (answer_of (decision_in Mode.Events image pending line))
    unfolding issued
    obeys_events small r =
        let avoidable = reducible_avoids p e r in
        let inside : InAlphabet e = subst InAlphabet n.whole (union_limit n.named.events.bits pending.bits (line_inside line n.named n.read) small) in
        subst (ObeysEvents p e (kept_events p e)) (sym (reduces_policy ∙ issued_is p e words avoidable)) (record {
          issued = not_refused;
          maximal = kept_maximal p e inside avoidable;
          accepts = refl;
          within = issued_within p e;
          satisfies = issued_satisfies p e avoidable;
          rest = issued_with_withheld p e;
          apart = withheld_apart p e;
          giving_back = giving_back_clashes p e inside;
          own_trial = dropped_trial p e inside;
          conservative = λ clean. (all_kept p e inside clean, nothing_withheld p e inside clean);
        })

-- ---- refusals in either mode

-- a decision is refused exactly for what it is refused for in the first mode or, in the second, where no reduction is free of conflict
pub refused_exactly : (mode : Mode) (image : List ℕ) (pending : EventSet) (line : List ℕ) → Bytes image → (r : Refusal) → (decision_in mode image pending line ≡ Err r) ↔ RefusedIn mode image pending line r
unfolding decided_by
refused_exactly mode image pending line bounded r = (λ h. ⊎_elim as_first (epoch_case mode h) (refused_cases mode image bounded pending line r h), back)
  where
    p : Policy
    p = policy_in image

    does : (contents : Contents) → load image ≡ Ok contents → Implements image contents p
    does contents t = taken_implements image bounded contents t

    epoch_case : (m : Mode) → decision_in m image pending line ≡ Err r → OfEpochAlone m image bounded pending line r → RefusedIn m image pending line r
    epoch_case Mode.Actions h a = absurd (cc a.refused)
    epoch_case Mode.Events h a =
        let next = next_in p pending line a.named a.read a.free in
        let w = refuses_out p (with_pending pending a.named) _ r (sym (decided image a.contents p (does a.contents a.taken) pending line _ next) ∙ h) in
        for_conflict refl a.contents a.taken (with_pending pending a.named) next ((unavoidable_exactly p (with_pending pending a.named)).0 w.0) w.1

    back : RefusedIn mode image pending line r → decision_in mode image pending line ≡ Err r
    back (as_first f) = refused_for mode image bounded pending line r f
    back (for_conflict m contents t e q none w) =
        ap (λ (x : Mode). decision_in x image pending line) m ∙ (conflict_exactly image contents p (does contents t) pending line e q).1 none ∙ ap Err (sym w)

-- and under which faults, at which locations
pub decision_faults : (mode : Mode) (image : List ℕ) (pending : EventSet) (line : List ℕ) → Bytes image → (r : Refusal) → decision_in mode image pending line ≡ Err r
    → OfDecisionIn mode (length (words_of image)) r
decision_faults mode image pending line bounded r h = go ((refused_exactly mode image pending line bounded r).0 h)
  where
    go : RefusedIn mode image pending line r → OfDecisionIn mode (length (words_of image)) r
    go (as_first f) = of_either (either_faults image line r f)
    go (for_conflict m contents t e q none w) = of_conflict m w

-- ---- the image of a policy that an accepted text may have

module _ (form : ℕ) (known : known_form form ≡ true) (p : Policy) (ok : Acceptable form p) (pending : EventSet) (line : List ℕ) (e : Epoch) (next : next_epoch p pending line ≡ Ok e) where
  abbrev image : List ℕ
  image = image_of form p

  written : Implements image (contents_of form p) p
  written = written_implements form known p ok

  pub written_reduces : answer_of (decision_in Mode.Events image pending line) ≡ yield_in Mode.Events p e
  written_reduces = reduces_policy image (contents_of form p) p written pending line e next

  -- the events are pending that the kept ones trigger, and those before where the epoch is refused
  pub written_events_trigger : pending_after pending (decision_in Mode.Events image pending line) ≡ set_after pending Mode.Events p (Ok e)
  unfolding pending_after set_after yield_in triggered_in
  written_events_trigger = grind (arith, decided image (contents_of form p) p written pending line e next)

  pub written_conflict : (decision_in Mode.Events image pending line ≡ Err (refusal Fault.Unavoidable 0)) ↔ ¬ Reducible p.constraints (proposed_with p.rules) e
  written_conflict = conflict_exactly image (contents_of form p) p written pending line e next

  pub written_obeys_events : pending.bits < 2 ^ 64 → Reducible p.constraints (proposed_with p.rules) e → ObeysEvents p e (kept_events p e) (answer_of (decision_in Mode.Events image pending line))
  written_obeys_events = obeys_events image (contents_of form p) p written pending line e next
