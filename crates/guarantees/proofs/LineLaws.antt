-- Deciding a list of lines one after another.
use Rattle.policy.specs.declared.fault.Refusal.{Refusal}
use Rattle.std.proofs.Common.{ℕ, ◌≡◌, ◌<◌, ◌+◌, List, [], ◌∷◌, take, map, length, min, refl, ap, ap₂, ◌∙◌, arith, true, suc, zero, slice_index_or, slice_set, Result}
use Rattle.std.proofs.Math.Numerals.{unary_clauses}
use Rattle.policy.specs.Policy.{Policy}
use Rattle.policy.specs.Limits.{Acceptable}
use Rattle.policy.specs.Set.{EventSet, no_events}
use Rattle.layout.specs.Layout.{known_form, image_of}
use Rattle.monitor.specs.Decision.{advanced, answer_of}
use Rattle.monitor.specs.declared.decision.Actions.{Actions}
use Rattle.monitor.specs.declared.state.Decided.{Decided}
use Rattle.guarantees.specs.Machine.{steps}
use Rattle.guarantees.specs.Together.{told, decided_lines}
use Rattle.guarantees.specs.declared.Told.{Told}
use Rattle.guarantees.proofs.Agreement.{same_answer, same_pending}

-- the events that are pending behind lines
unfoldable pub pending_behind : List ℕ → EventSet → List Told → EventSet
pending_behind image pending [] = pending
pending_behind image pending (x ∷ lines) = pending_behind image (advanced x.mode image pending x.line.now).pending lines

module _ (image : List ℕ) (other : Told) where
  -- the decision on the line at an index, where so many were decided before it
  abbrev pub decided_at : EventSet → List Told → ℕ → Decided
  decided_at pending lines i = advanced (slice_index_or lines i other).mode image (pending_behind image pending (take i lines)) (slice_index_or lines i other).line.now

  pub one_more : (lines : List Told) (pending : EventSet) (ds : List (Result Actions Refusal)) (i : ℕ) → i < length lines → i < length ds
      → slice_set (decided_lines image pending (take i lines) ds) i (decided_at pending lines i).answer ≡ decided_lines image pending (take (i + 1) lines) ds
  unfolding decided_lines pending_behind
  one_more [] pending ds i h k = absurd (omega (arith, h))
  one_more (x ∷ lines) pending [] i h k = absurd (omega (arith, k))
  one_more (x ∷ lines) pending (d ∷ ds) zero h k = refl
  one_more (x ∷ lines) pending (d ∷ ds) (suc i) h k = grind (arith, unary_clauses, one_more lines (advanced x.mode image pending x.line.now).pending ds i)

  pub pending_more : (lines : List Told) (pending : EventSet) (i : ℕ) → i < length lines → (decided_at pending lines i).pending ≡ pending_behind image pending (take (i + 1) lines)
  unfolding pending_behind
  pending_more [] pending i h = absurd (omega (arith, h))
  pending_more (x ∷ lines) pending zero h = refl
  pending_more (x ∷ lines) pending (suc i) h = grind (arith, unary_clauses, pending_more lines (advanced x.mode image pending x.line.now).pending i)

  -- a line more is decided
  pub line_decided : (lines : List Told) (old now : List (Result Actions Refusal)) (i : ℕ) (before after : EventSet) (answer : Result Actions Refusal)
      → now ≡ decided_lines image no_events (take i lines) old → before ≡ pending_behind image no_events (take i lines)
      → record { answer = answer; pending = after } ≡ advanced (slice_index_or lines i other).mode image before (slice_index_or lines i other).line.now → i < min (length lines) (length old)
      → (slice_set now i answer ≡ decided_lines image no_events (take (i + 1) lines) old) × (after ≡ pending_behind image no_events (take (i + 1) lines))
  line_decided lines old now i before after answer d p s l =
      let at : record { answer = answer; pending = after } ≡ decided_at no_events lines i =
      s ∙ ap (λ (x : EventSet). advanced (slice_index_or lines i other).mode image x (slice_index_or lines i other).line.now) p in (
        ap₂ (λ ds (x : Decided). slice_set ds i x.answer) d at ∙ one_more lines no_events old i (omega (arith, l)) (omega (arith, l)),
        ap (λ (x : Decided). x.pending) at ∙ pending_more lines no_events i (omega (arith, l)),
      )

pub all_done : (image : List ℕ) (lines : List Told) (pending : EventSet) (ds : List (Result Actions Refusal)) (n : ℕ) → n ≡ min (length lines) (length ds)
    → decided_lines image pending (take n lines) ds ≡ decided_lines image pending lines ds
unfolding decided_lines
all_done image [] pending ds zero h = refl
all_done image [] pending ds (suc n) h = refl
all_done image (x ∷ lines) pending [] n h = grind arith
all_done image (x ∷ lines) pending (d ∷ ds) zero h = absurd (omega (arith, h))
all_done image (x ∷ lines) pending (d ∷ ds) (suc n) h = cc (all_done image lines (advanced x.mode image pending x.line.now).pending ds n (omega (arith, h)))

module _ (form : ℕ) (known : known_form form ≡ true) (p : Policy) (ok : Acceptable form p) where
  lines_agree : (lines : List Told) (pending : EventSet) (ds : List (Result Actions Refusal)) (n : ℕ) → n ≡ min (length lines) (length ds)
      → map answer_of (take n (decided_lines (image_of form p) pending lines ds)) ≡ steps p pending (take (length ds) (told lines))
  unfolding decided_lines told steps advanced
  lines_agree [] pending [] zero h = refl
  lines_agree [] pending (d ∷ ds) zero h = refl
  lines_agree [] pending ds (suc n) h = absurd (omega (arith, h))
  lines_agree (x ∷ lines) pending [] zero h = refl
  lines_agree (x ∷ lines) pending [] (suc n) h = refl
  lines_agree (x ∷ lines) pending (d ∷ ds) zero h = absurd (omega (arith, h))
  lines_agree (x ∷ lines) pending (d ∷ ds) (suc n) h = grind (arith, same_answer, same_pending, lines_agree lines)

  pub decided_agree : (lines : List Told) (ds : List (Result Actions Refusal))
      → map answer_of (take (min (length lines) (length ds)) (decided_lines (image_of form p) no_events lines ds)) ≡ steps p no_events (take (length ds) (told lines))
  decided_agree lines ds = lines_agree lines no_events ds _ refl
