-- What is decided on an image whose words do what a policy yields is what the policy yields, in each mode.
use Rattle.std.proofs.Common.{if◌then◌else◌, ℕ, true, false, List, ◌≡◌, sym, ap, ◌∙◌, Result, Ok, Err}
use Rattle.policy.specs.declared.epoch.Epoch.{Epoch}
use Rattle.policy.specs.declared.epoch.Readings.{Readings}
use Rattle.policy.specs.Fault.{refusal}
use Rattle.policy.specs.Limits.{Acceptable}
use Rattle.policy.specs.Policy.{Policy}
use Rattle.policy.specs.Set.{ActionSet, EventSet, all_events, keeping, set_of, meets}
use Rattle.policy.specs.declared.fault.Fault.{Fault}
use Rattle.policy.specs.declared.fault.Refusal.{Refusal}
use Rattle.policy.specs.declared.mode.Mode.{Mode}
use Rattle.pdl.specs.Greedy.{greedy}
use Rattle.pdl.specs.Yield as Yield
use Rattle.pdl.specs.Reduction.{clashes, kept_events, issued, kept_triggers, unavoidable}
use Rattle.pdl.specs.Yield.{proposed, triggered, with_pending, names_reserved, conflict, resolve}
use Rattle.epoch_line.specs.Epoch.{read_epoch}
use Rattle.word.proofs.WordLaws.{bytes_below}
use Rattle.word.specs.Word.{Bytes}
use Rattle.layout.specs.Layout.{known_form, rule_part_words, constraint_part_words, image_words, image_of}
use Rattle.image.specs.Load.{Contents}
use Rattle.exactness.specs.Exact.{contents_of}
use Rattle.monitor.proofs.DecideLaws.{line_refused, reserved_refused, line_accepted}
use Rattle.monitor.specs.Decision.{kept_by, visited_by, actions_of, yielded_by, proposed_with_by, clash_by, kept_events_by, tried_event_words, reduced_by, reduction_by, decided_by, reserved_in, decision_in, decision}
use Rattle.monitor.specs.declared.decision.Actions.{Actions}
use Rattle.meaning.proofs.Taken.{Implements, written_implements}

-- what the second mode decides by a policy, with so many words
abbrev pub reduction_of : Policy → Epoch → ℕ → Result Actions Refusal
reduction_of p e words = if unavoidable p e then Err (refusal Fault.Unavoidable 0) else Ok (actions_of (proposed p.rules e) (issued p e) (kept_triggers p e) words)

module _ (image : List ℕ) (contents : Contents) (p : Policy) (does : Implements image contents p) where
  kept_is : (rs : Readings) (s : ActionSet) → kept_by contents.parts.constraints rs s ≡ resolve p.constraints rs s
  unfolding kept_by resolve
  kept_is rs s =
      λ i. set_of (greedy (λ (kept : ℕ). does.constraints rs (set_of kept) i) s.bits)

  issued_is : (e : Epoch) → yielded_by contents.parts.rules contents.parts.constraints e ≡ actions_of (proposed p.rules e) (Yield.accepted p e) (triggered p.rules e) (visited_by contents.parts.rules contents.parts.constraints e)
  unfolding yielded_by Yield.accepted
  issued_is e = cc (does.rules (all_events e.events) e.readings, kept_is e.readings (proposed p.rules e))

  -- an event that is named, and that the image reserves
  pub names_is : (e : Epoch) → meets (reserved_in contents) e.events ≡ names_reserved p.rules e
  unfolding names_reserved
  names_is e = ap (λ (s : EventSet). meets s e.events) does.reserves

  pub reserved_refuses : (mode : Mode) (pending : EventSet) (line : List ℕ) (e : Epoch) → read_epoch line ≡ Ok e → names_reserved p.rules e ≡ true
      → decision_in mode image pending line ≡ Err (refusal Fault.ReservedEvent 0)
  reserved_refuses mode pending line e read h = sym (reserved_refused mode image pending line contents does.taken e read (names_is e ∙ h))

  pub decided_is : (pending : EventSet) (line : List ℕ) (e : Epoch) → read_epoch line ≡ Ok e → names_reserved p.rules e ≡ false
      → decision image pending line
      ≡ Ok (actions_of (proposed p.rules (with_pending pending e)) (Yield.accepted p (with_pending pending e)) (triggered p.rules (with_pending pending e))
      (visited_by contents.parts.rules contents.parts.constraints (with_pending pending e)))
  unfolding decided_by
  decided_is pending line e read free =
      sym (line_accepted Mode.Actions image pending line contents does.taken e read (names_is e ∙ free)) ∙ ap Ok (issued_is (with_pending pending e))

  -- ---- the same in the second mode

  clash_is : (e : Epoch) (kept : ℕ) → clash_by contents.parts.rules contents.parts.constraints e kept ≡ clashes p e (set_of kept)
  unfolding clashes
  clash_is e kept = cc (does.constraints e.readings (proposed_with_by contents.parts.rules e (set_of kept)), does.rules (keeping e.events (set_of kept)) e.readings)

  pub kept_events_are : (e : Epoch) → kept_events_by contents.parts.rules contents.parts.constraints e ≡ kept_events p e
  unfolding kept_events_by kept_events
  kept_events_are e = λ i. set_of (greedy (λ (kept : ℕ). clash_is e kept i) e.events.bits)

  reduced_is : (e : Epoch) → reduced_by contents.parts.rules contents.parts.constraints e ≡ actions_of (proposed p.rules e) (issued p e) (kept_triggers p e) (tried_event_words contents.parts.rules contents.parts.constraints e)
  unfolding reduced_by issued kept_triggers
  reduced_is e = cc (does.rules (all_events e.events) e.readings, kept_events_are e, does.rules (keeping e.events (kept_events p e)) e.readings)

  pub events_decided_are : (pending : EventSet) (line : List ℕ) (e : Epoch) → read_epoch line ≡ Ok e → names_reserved p.rules e ≡ false
      → decision_in Mode.Events image pending line
      ≡ reduction_of p (with_pending pending e) (tried_event_words contents.parts.rules contents.parts.constraints (with_pending pending e))
  unfolding decided_by reduction_by unavoidable
  events_decided_are pending line e read free =
      sym (line_accepted Mode.Events image pending line contents does.taken e read (names_is e ∙ free)) ∙ rw (clash_is (with_pending pending e) 0, reduced_is (with_pending pending e))

-- ---- the image of a policy that an accepted text may have

module _ (form : ℕ) (known : known_form form ≡ true) (p : Policy) (ok : Acceptable form p) where
  does : Implements (image_of form p) (contents_of form p) p
  does = written_implements form known p ok

  pub image_bounded : Bytes (image_of form p)
  unfolding image_of
  image_bounded = bytes_below (image_words form p)

  module _ (pending : EventSet) (line : List ℕ) where
    -- on a line that is refused, in either mode
    pub image_refuses_in : (mode : Mode) (r : Refusal) → read_epoch line ≡ Err r → decision_in mode (image_of form p) pending line ≡ Err r
    image_refuses_in mode r q = sym (line_refused mode (image_of form p) pending line (contents_of form p) does.taken r q)

    pub image_refuses : (r : Refusal) → read_epoch line ≡ Err r → decision (image_of form p) pending line ≡ Err r
    image_refuses = image_refuses_in Mode.Actions

    module _ (e : Epoch) (read : read_epoch line ≡ Ok e) where
      abbrev whole : Epoch
      whole = with_pending pending e

      -- on one that names an event that some rule triggers
      pub image_reserves : (mode : Mode) → names_reserved p.rules e ≡ true → decision_in mode (image_of form p) pending line ≡ Err (refusal Fault.ReservedEvent 0)
      image_reserves mode = reserved_refuses (image_of form p) (contents_of form p) p does mode pending line e read

      -- on any other epoch, with the pending events among its events, it decides what the policy yields
      pub image_decides : names_reserved p.rules e ≡ false
          → decision (image_of form p) pending line
          ≡ Ok (actions_of (proposed p.rules whole) (Yield.accepted p whole) (triggered p.rules whole) (visited_by (rule_part_words p) (constraint_part_words p) whole))
      image_decides = decided_is (image_of form p) (contents_of form p) p does pending line e read

      pub image_reduces : names_reserved p.rules e ≡ false
          → decision_in Mode.Events (image_of form p) pending line ≡ reduction_of p whole (tried_event_words (rule_part_words p) (constraint_part_words p) whole)
      image_reduces = events_decided_are (image_of form p) (contents_of form p) p does pending line e read
