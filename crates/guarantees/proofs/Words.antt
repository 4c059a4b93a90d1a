-- How many words of its image a decision fetches, in each mode.
use Rattle.policy.specs.declared.fault.Refusal.{Refusal}
use Rattle.std.proofs.Common.{ℕ, ◌+◌, ◌*◌, ◌≤◌, Bool, true, false, cond, List, ◌≡◌, refl, sym, ap, ◌∙◌, mul-le-mul_right, arith, length, Result, Ok, Err}
use Rattle.policy.specs.declared.epoch.Epoch.{Epoch}
use Rattle.policy.specs.Fault.{refusal}
use Rattle.policy.specs.Set.{ActionSet, EventSet, size, all_events}
use Rattle.policy.specs.declared.effect.Effects.{Effects}
use Rattle.pdl.specs.Reduction.{issued, kept_triggers, unavoidable}
use Rattle.pdl.specs.Yield.{proposed}
use Rattle.policy.specs.declared.fault.Fault.{Fault}
use Rattle.policy.specs.declared.mode.Mode.{Mode}
use Rattle.pdl.proofs.CostLaws.{trials_cost_is, size_limit_is}
use Rattle.pdl.proofs.Monitor.{accepted_with_cancelled}
use Rattle.word.specs.Word.{Bytes, words_of}
use Rattle.image.specs.Held.{policy_in}
use Rattle.layout.specs.Layout.{rule_word_limit, constraint_word_limit}
use Rattle.image.specs.Check.{form_byte, rule_words, constraint_words}
use Rattle.image.specs.Load.{load, Contents}
use Rattle.exactness.proofs.Exact.{took}
use Rattle.meaning.proofs.Fetched.{taken_rules_fetch, taken_trial_fetch}
use Rattle.meaning.proofs.Taken.{Implements, taken_rules_run, taken_implements}
use Rattle.exactness.proofs.ImageLaws.{rules_size, constraints_size}
use Rattle.image.proofs.HeldLaws.{counted}
use Rattle.monitor.specs.Decision.{actions_of, visited_by, proposed_by, tried_words, clash_by, clash_words, tried_event_words, yielded_by, decided_by, on_image, decision_in, decision, answer_of, visited_in}
use Rattle.guarantees.specs.Decisions.{decided_actions}
use Rattle.guarantees.proofs.Decisions.{does_refuse, decided_yields, holds_policy}
use Rattle.guarantees.proofs.Reductions.{decided}
use Rattle.guarantees.specs.Machine.{next_epoch}

-- a refused decision reports 0, in either mode
pub refused_fetches_none : (mode : Mode) (image : List ℕ) (pending : EventSet) (line : List ℕ) → (answer_of (decision_in mode image pending line)).is_refused ≡ true → visited_in (decision_in mode image pending line) ≡ 0
refused_fetches_none mode image pending line h = grind arith

module _ (image : List ℕ) (bounded : Bytes image) (contents : Contents) (taken : load image ≡ Ok contents) where
  abbrev P : ℕ
  P = length contents.parts.rules

  abbrev N : ℕ
  N = length contents.parts.constraints

  module _ (e : Epoch) where
    issued_words : visited_by contents.parts.rules contents.parts.constraints e ≤ P + size (proposed_by contents.parts.rules e).bits * N
    unfolding tried_words
    issued_words = grind (arith, taken_rules_fetch, trials_cost_is, taken_trial_fetch)

  module _ (pending : EventSet) (line : List ℕ) where
    -- at most the rule words, and the constraint words once for each action that was accepted or cancelled
    pub words_by_actions : visited_in (decision image pending line) ≤ P + size (decided_actions (answer_of (decision image pending line))).bits * N
    unfolding decided_by yielded_by
    words_by_actions = go (next_epoch (policy_in image) pending line) refl
      where
        does : Implements image contents (policy_in image)
        does = taken_implements image bounded contents taken

        go : (a : Result Epoch Refusal) → next_epoch (policy_in image) pending line ≡ a → visited_in (decision image pending line) ≤ P + size (decided_actions (answer_of (decision image pending line))).bits * N
        go (Err r) q = rw (does_refuse image contents (policy_in image) does Mode.Actions pending line r q) (omega arith)
        go (Ok e) q =
            let v : visited_in (decision image pending line) ≡ visited_by contents.parts.rules contents.parts.constraints e = ap visited_in (decided_yields image contents (policy_in image) does pending line e q) in
            let s : decided_actions (answer_of (decision image pending line)) ≡ proposed_by contents.parts.rules e =
            ap decided_actions (holds_policy image contents (policy_in image) does pending line e q) ∙ accepted_with_cancelled (policy_in image) e
            ∙ ap (λ (x : Effects). x.actions) (sym (taken_rules_run image bounded contents taken (all_events e.events) e.readings)) in
            omega (arith, v, issued_words e, ap (λ (x : ActionSet). size x.bits * N) s)

    -- so it is at most P + 64 × N
    pub words_bounded : visited_in (decision image pending line) ≤ P + 64 * N
    words_bounded = grind (arith, words_by_actions, mul-le-mul_right, size_limit_is)

    -- ---- the second mode

    -- a trial fetches at most the rule words and the constraint words
    trial_words_is : (e : Epoch) (kept : ℕ) → clash_words contents.parts.rules contents.parts.constraints e kept ≤ P + N
    trial_words_is e kept = grind (arith, taken_rules_fetch, taken_trial_fetch)

    -- one trial with no event, and one for each event of the epoch
    pub words_by_events : (e : Epoch) → next_epoch (policy_in image) pending line ≡ Ok e → visited_in (decision_in Mode.Events image pending line) ≤ (P + N) + size e.events.bits * (P + N)
    unfolding tried_event_words
    words_by_events e q = rw (decided image contents (policy_in image) (taken_implements image bounded contents taken) pending line e q) (go (unavoidable (policy_in image) e))
      where
        words : ℕ
        words = tried_event_words contents.parts.rules contents.parts.constraints e

        go : (b : Bool) → visited_in (cond b (Err (refusal Fault.Unavoidable 0)) (Ok (actions_of (proposed (policy_in image).rules e) (issued (policy_in image) e) (kept_triggers (policy_in image) e) words))) ≤ (P + N) + size e.events.bits * (P + N)
        go true = omega arith
        go false = omega (arith, trial_words_is e 0, trials_cost_is (clash_by contents.parts.rules contents.parts.constraints e) (clash_words contents.parts.rules contents.parts.constraints e) e.events.bits (P + N) (trial_words_is e))

    -- so it is at most 65 × (P + N)
    pub events_words_bounded : visited_in (decision_in Mode.Events image pending line) ≤ 65 * (P + N)
    events_words_bounded = go (next_epoch (policy_in image) pending line) refl
      where
        go : (a : Result Epoch Refusal) → next_epoch (policy_in image) pending line ≡ a → visited_in (decision_in Mode.Events image pending line) ≤ 65 * (P + N)
        go (Err r) q = rw (does_refuse image contents (policy_in image) (taken_implements image bounded contents taken) Mode.Events pending line r q) (omega arith)
        go (Ok e) q = omega (arith, words_by_events e q, mul-le-mul_right (P + N) (size_limit_is e.events.bits))

-- ---- whatever the bytes and the line

-- the counts of an image that is taken
counts : (image : List ℕ) (contents : Contents) → load image ≡ Ok contents
    → (length contents.parts.rules ≤ rule_word_limit (form_byte (words_of image))) × (length contents.parts.constraints ≤ constraint_word_limit (form_byte (words_of image)))
counts image contents q =
    let t = took image contents q in
    let ws = words_of image in
    let c = counted ws t.checked.checked.count in
    let room : 1 + rule_words ws + constraint_words ws ≤ length ws = omega (arith, c.all) in (
      omega (arith, ap length t.rules_are, rules_size ws (rule_words ws) (constraint_words ws) room, c.rules),
      omega (arith, ap length t.constraints_are, constraints_size ws (rule_words ws) (constraint_words ws) room, c.constraints),
    )

pub words_limit : (image : List ℕ) (pending : EventSet) (line : List ℕ) → Bytes image → visited_in (decision image pending line) ≤ 71808
unfolding decision_in on_image
words_limit image pending line bounded = go (load image) refl
  where
    go : (l : Result Contents Refusal) → load image ≡ l → visited_in (decision image pending line) ≤ 71808
    go (Err r) q = rw q (omega arith)
    go (Ok contents) q = let few = counts image contents q in omega (arith, words_bounded image bounded contents q pending line, few.0, few.1)

pub events_words_limit : (image : List ℕ) (pending : EventSet) (line : List ℕ) → Bytes image → visited_in (decision_in Mode.Events image pending line) ≤ 212160
unfolding decision_in on_image
events_words_limit image pending line bounded = go (load image) refl
  where
    go : (l : Result Contents Refusal) → load image ≡ l → visited_in (decision_in Mode.Events image pending line) ≤ 212160
    go (Err r) q = rw q (omega arith)
    go (Ok contents) q = let few = counts image contents q in omega (arith, events_words_bounded image bounded contents q pending line, few.0, few.1)
