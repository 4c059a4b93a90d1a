-- The events that are kept are a maximal reduction free of conflict, lower numbers kept first; and an epoch has no such reduction
-- exactly where a constraint holds already with no event kept. Definitions below are those of Chomicki, Lobo and Naqvi, "Conflict
-- Resolution Using Logic Programming" (TKDE 2003); a maximal reduction is that of Definition 10.
use Rattle.std.proofs.Common.{ℕ, Bool, true, false, ◌↔◌, ◌≡◌, refl, sym, ap, arith}
use Rattle.std.proofs.lemmas.Bool.{false_from_ne_true, true_from_ne_false, both_ways}
use Rattle.policy.proofs.SetLaws.{has_empty, has_limit}
use Rattle.policy.specs.Epoch.{InAlphabet}
use Rattle.policy.specs.declared.epoch.Epoch.{Epoch}
use Rattle.policy.specs.Policy.{Policy}
use Rattle.policy.specs.Set.{EventSet, has_event, no_events, insert_event, events_below, has_action, no_actions, union_actions, set_of}
use Rattle.policy.specs.declared.number.Action.{Action}
use Rattle.policy.specs.declared.number.Event.{Event}
use Rattle.pdl.proofs.GreedyLaws.{Monotone, greedy_dropped, greedy_within, greedy_good, greedy_maximal}
use Rattle.pdl.proofs.Others.{others_apart, with_others, no_others}
use Rattle.pdl.proofs.Proposals.{more_proposed}
use Rattle.pdl.proofs.Resolution.{satisfied, no_conflict, conflict_out, conflict_more}
use Rattle.pdl.specs.Pdl.{Violated, Satisfies, ConsistentReduction, MaximalReduction, Reducible, EventCancellation, MaximalEventCancellation, ◌⊆◌, ◌⊑◌}
use Rattle.pdl.specs.Reduction.{proposed_with, clashes, kept_events, issued, withheld, unavoidable}
use Rattle.pdl.specs.Yield.{proposed}

module _ (p : Policy) (e : Epoch) where
  abbrev Reduces : EventSet → Type 0
  Reduces = ConsistentReduction p.constraints (proposed_with p.rules) e

  abbrev bad : ℕ → Bool
  bad kept = clashes p e (set_of kept)

  -- ---- trials

  bad_monotone : Monotone bad
  unfolding clashes
  bad_monotone s t h = grind (arith, conflict_more, more_proposed)

  none_within : (t : EventSet) → no_events ⊑ t
  none_within t x h = cc (has_empty x.0)

  -- ---- when an epoch cannot be reduced

  -- exactly where a constraint holds with no event kept
  pub unavoidable_exactly : (unavoidable p e ≡ true) ↔ ¬ Reducible p.constraints (proposed_with p.rules) e
  unfolding unavoidable clashes
  unavoidable_exactly = (
    (λ h r. both_ways _ (no_conflict _ _ _ r.reduction.consistent) (bad_monotone 0 r.kept.bits (λ n. none_within r.kept (record { 0 = n })) h)),
    λ h. true_from_ne_false (clashes p e no_events) (λ q. h (record { kept = no_events; reduction = record { within = none_within e.events; consistent = satisfied _ _ _ q } })),
  )

  pub reducible_avoids : Reducible p.constraints (proposed_with p.rules) e → unavoidable p e ≡ false
  reducible_avoids r = false_from_ne_true (unavoidable p e) (λ h. unavoidable_exactly.0 h r)

  -- ---- what is kept

  pub kept_within : kept_events p e ⊑ e.events
  unfolding kept_events
  kept_within x h = greedy_within bad e.events.bits x.0 h

  pub issued_within : issued p e ⊆ proposed p.rules e
  unfolding issued
  issued_within = more_proposed p.rules (kept_events p e) e.events e.events e.readings kept_within

  pub issued_with_withheld : union_actions (issued p e) (withheld p e) ≡ proposed p.rules e
  unfolding withheld
  issued_with_withheld = with_others (proposed p.rules e) (issued p e) issued_within

  pub withheld_apart : (a : Action) → has_action (withheld p e) a ≡ true → has_action (issued p e) a ≡ false
  unfolding withheld
  withheld_apart = others_apart (proposed p.rules e) (issued p e)

  module _ (avoidable : unavoidable p e ≡ false) where
    kept_good : clashes p e (kept_events p e) ≡ false
    unfolding kept_events unavoidable
    kept_good = greedy_good bad e.events.bits avoidable

    -- no constraint holds on what is issued
    pub issued_satisfies : Satisfies p.constraints e.readings (issued p e)
    unfolding issued clashes
    issued_satisfies = satisfied p.constraints e.readings (issued p e) kept_good

    pub kept_reduces : Reduces (kept_events p e)
    unfolding issued
    kept_reduces = record { within = kept_within; consistent = issued_satisfies }

  -- ---- of an epoch with the events E0 to E63

  module _ (inside : InAlphabet e) where
    maximal : (u : EventSet) → kept_events p e ⊑ u → u ⊑ e.events → clashes p e u ≡ false → u ≡ kept_events p e
    unfolding kept_events
    maximal u h k good = ap set_of (greedy_maximal bad e.events.bits bad_monotone inside u.bits (λ n. k (record { 0 = n })) good (λ n. h (record { 0 = n })))

    pub kept_maximal : unavoidable p e ≡ false → MaximalReduction p.constraints (proposed_with p.rules) e (kept_events p e)
    unfolding clashes
    kept_maximal avoidable =
        record { reduction = kept_reduces avoidable; maximal = λ u h r. maximal u h r.within (no_conflict p.constraints e.readings (proposed_with p.rules e u) r.consistent) }

    -- giving back one or more dropped events makes a constraint hold
    pub giving_back_clashes : (u : EventSet) → kept_events p e ⊑ u → u ⊑ e.events → ¬ (u ≡ kept_events p e)
        → Violated p.constraints e.readings (proposed_with p.rules e u)
    unfolding clashes
    giving_back_clashes u h k other = conflict_out p.constraints e.readings (proposed_with p.rules e u) (true_from_ne_false (clashes p e u) (λ q. other (maximal u h k q)))

    -- an event is dropped only for its own trial: on what the lower kept ones propose together with it some constraint holds
    pub dropped_trial : (x : Event) → has_event e.events x ≡ true → has_event (kept_events p e) x ≡ false
        → Violated p.constraints e.readings (proposed_with p.rules e (insert_event (events_below (kept_events p e) x) x))
    unfolding kept_events clashes
    dropped_trial x h k = grind (arith, conflict_out, greedy_dropped, has_limit)

    -- where nothing clashes, no event is dropped
    module _ (clean : Satisfies p.constraints e.readings (proposed p.rules e)) where
      pub all_kept : kept_events p e ≡ e.events
      unfolding clashes
      all_kept = sym (maximal e.events kept_within (λ x h. h) (no_conflict p.constraints e.readings (proposed p.rules e) clean))

      pub nothing_withheld : withheld p e ≡ no_actions
      unfolding withheld issued
      nothing_withheld = no_others (proposed p.rules e) (issued p e) (ap (proposed_with p.rules e) all_kept)

-- Definition 11.4
pub event_cancellation : (p : Policy) → EventCancellation p.constraints (proposed_with p.rules) (issued p)
unfolding issued
event_cancellation p e inside r = record { kept = kept_events p e; reduction = kept_reduces p e (reducible_avoids p e r); same = refl }

-- Definition 11.5
pub maximal_event_cancellation : (p : Policy) → MaximalEventCancellation p.constraints (proposed_with p.rules) (issued p)
unfolding issued
maximal_event_cancellation p e inside r = record { kept = kept_events p e; reduction = kept_maximal p e inside (reducible_avoids p e r); same = refl }
