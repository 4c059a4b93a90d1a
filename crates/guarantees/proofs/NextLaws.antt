-- The epoch of a line where events are pending: which there is, and what a line is refused for.
use Rattle.std.proofs.Common.{true, false, ◌||◌, List, ℕ, ◌⊎◌, ⊎_elim, Contains, ◌≡◌, arith, Ok, Err}
use Rattle.policy.proofs.SetLaws.{has_union, has_limit, meets_out, meets_in}
use Rattle.policy.specs.Fault.{refusal}
use Rattle.policy.specs.Policy.{Policy, Rule}
use Rattle.policy.specs.Set.{EventSet, has_event}
use Rattle.policy.specs.declared.effect.Effect.{Effect}
use Rattle.policy.specs.declared.epoch.Epoch.{Epoch}
use Rattle.policy.specs.declared.fault.Fault.{Fault}
use Rattle.policy.specs.declared.fault.Refusal.{Refusal}
use Rattle.policy.specs.declared.number.Event.{Event}
use Rattle.pdl.proofs.Proposals.{reserved_exactly}
use Rattle.pdl.specs.Yield.{with_pending, reserved, names_reserved}
use Rattle.acceptance.proofs.Alphabet.{line_inside}
use Rattle.epoch_line.specs.Epoch.{read_epoch}
use Rattle.guarantees.specs.Machine.{on_named, next_epoch}

-- ---- the epoch of a line

-- one in which no event is named that some rule triggers, with the pending events
pub record Next (p : Policy) (pending : EventSet) (line : List ℕ) (e : Epoch) : Type 0 where
  pub named : Epoch
  pub read : read_epoch line ≡ Ok named
  pub free : names_reserved p.rules named ≡ false
  pub whole : with_pending pending named ≡ e

-- a line that is none, or one that names such an event
pub data NoNext (p : Policy) (line : List ℕ) (r : Refusal) : Type 0 where
  no_epoch : read_epoch line ≡ Err r → NoNext p line r
  is_reserved : (named : Epoch) → read_epoch line ≡ Ok named → names_reserved p.rules named ≡ true → r ≡ refusal Fault.ReservedEvent 0 → NoNext p line r

module _ (p : Policy) (pending : EventSet) (line : List ℕ) where
  pub next_out : (e : Epoch) → next_epoch p pending line ≡ Ok e → Next p pending line e
  unfolding next_epoch on_named
  next_out e h = grind arith

  pub next_in : (named : Epoch) → read_epoch line ≡ Ok named → names_reserved p.rules named ≡ false → next_epoch p pending line ≡ Ok (with_pending pending named)
  unfolding next_epoch on_named
  next_in named r f = rw (r, f)

  pub next_refused : (r : Refusal) → next_epoch p pending line ≡ Err r → NoNext p line r
  unfolding next_epoch on_named
  next_refused r h = ⊎_elim no_epoch (λ x. is_reserved x.0 x.1 x.2 x.3) cases
    where
      cases : (read_epoch line ≡ Err r) ⊎ ((named : Epoch) × (read_epoch line ≡ Ok named) × (names_reserved p.rules named ≡ true) × (r ≡ refusal Fault.ReservedEvent 0))
      cases = grind arith

-- its events are those that are named and those that are pending
pub epoch_events : (p : Policy) (pending : EventSet) (line : List ℕ) (e : Epoch) → next_epoch p pending line ≡ Ok e → (named : Epoch) → read_epoch line ≡ Ok named
    → (x : Event) → has_event e.events x ≡ has_event named.events x || has_event pending x
epoch_events p pending line e h named r x = grind (arith, next_out p pending line e h, has_union named.events.bits pending.bits x.0)

-- ---- a line names an event that some rule triggers

pub record Triggered (p : Policy) (named : Epoch) : Type 0 where
  pub event : Event
  pub in_line : has_event named.events event ≡ true
  pub rule : Rule
  pub listed : Contains p.rules rule
  pub triggers : rule.effect ≡ Effect.Triggers event

module _ (p : Policy) (line : List ℕ) (named : Epoch) (read : read_epoch line ≡ Ok named) where
  pub names_triggered : names_reserved p.rules named ≡ true → Triggered p named
  unfolding names_reserved
  names_triggered h =
      let inside = line_inside line named read in
      let m = meets_out (reserved p.rules).bits named.events.bits inside h in
      let r = (reserved_exactly p.rules (record { 0 = m.0 }) (has_limit named.events.bits inside m.0 m.2)).0 m.1 in
      record { event = record { 0 = m.0 }; in_line = m.2; rule = r.0; listed = r.1; triggers = r.2 }

  pub triggered_named : Triggered p named → names_reserved p.rules named ≡ true
  unfolding names_reserved
  triggered_named t =
      meets_in (reserved p.rules).bits named.events.bits t.event.0
      ((reserved_exactly p.rules t.event (has_limit named.events.bits (line_inside line named read) t.event.0 t.in_line)).1 (t.rule, t.listed, t.triggers)) t.in_line
