-- What a policy asks of an answer to an epoch is met by one answer alone, in either mode.
use Rattle.std.proofs.Common.{ℕ, List, ◌<◌, ◌≡◌, true, false, ◌||◌, sym, ap, ◌∙◌, arith, zero, suc}
use Rattle.std.proofs.lemmas.Bool.{true_from_ne_false}
use Rattle.policy.proofs.SetLaws.{has_union, has_insert_cases, has_below, has_below_past, set_ext}
use Rattle.policy.specs.declared.epoch.Epoch.{Epoch}
use Rattle.policy.specs.declared.epoch.Readings.{Readings}
use Rattle.policy.specs.Policy.{Policy, Constraint}
use Rattle.policy.specs.Set.{ActionSet, EventSet, has, has_action, below, insert, union_actions, set_of}
use Rattle.policy.specs.declared.number.Action.{Action}
use Rattle.pdl.proofs.GreedyLaws.{Within}
use Rattle.pdl.proofs.Proposals.{more_proposed}
use Rattle.pdl.proofs.Resolution.{actions_ext}
use Rattle.pdl.specs.Answer.{Answer}
use Rattle.pdl.specs.Pdl.{Violated, ◌⊆◌}
use Rattle.pdl.specs.Reduction.{proposed_with}
use Rattle.pdl.specs.Yield.{proposed}
use Rattle.guarantees.specs.Decisions.{NotRefused, Obeys, ObeysEvents}

-- ---- what is kept of candidates is told by the trials alone

module _ (Bad : ℕ → Type 0) (more : (s t : ℕ) → Within s t → Bad s → Bad t) (candidates : ℕ) where
  record Kept (s : ℕ) : Type 0 where
    within : Within s candidates
    good : ¬ Bad s
    trial : (n : ℕ) → has candidates n ≡ true → has s n ≡ false → Bad (insert (below s n) n)

  -- a number that one set keeps is kept by another that keeps no others below it
  kept_too : (s t : ℕ) → Kept s → Kept t → (n : ℕ) → ((m : ℕ) → m < n → has t m ≡ true → has s m ≡ true) → has s n ≡ true → has t n ≡ true
  kept_too s t ks kt n lower h = grind (arith, true_from_ne_false, has_insert_cases, has_below, has_below_past)

  same_under : (s t : ℕ) → Kept s → Kept t → (n m : ℕ) → m < n → has s m ≡ has t m
  same_under s t ks kt zero m h = absurd (omega (arith, h))
  same_under s t ks kt (suc n) m h = grind (arith, kept_too s t ks kt m, kept_too t s kt ks m, same_under s t ks kt n)

  kept_same : (s t : ℕ) → Kept s → Kept t → s ≡ t
  kept_same s t ks kt = set_ext s t (λ n. same_under s t ks kt (suc n) n (omega arith))

-- ---- the other proposed actions

module _ (all s : ActionSet) where
  -- all but those of s
  pub record Others (t : ActionSet) : Type 0 where
    pub rest : union_actions s t ≡ all
    pub apart : (x : Action) → has_action t x ≡ true → has_action s x ≡ false

  either : (t : ActionSet) → Others t → (x : Action) → has_action s x || has_action t x ≡ has_action all x
  either t o x = sym (has_union s.bits t.bits x.0) ∙ ap (λ (u : ActionSet). has_action u x) o.rest

  pub other_in : (t : ActionSet) → Others t → (x : Action) → has_action all x ≡ true → has_action s x ≡ false → has_action t x ≡ true
  other_in t o x h k = grind (arith, either t o x)

  other_too : (t u : ActionSet) → Others t → Others u → (x : Action) → has_action t x ≡ true → has_action u x ≡ true
  other_too t u ot ou x h = grind (arith, either t ot x, either u ou x, ot.apart x)

  others_same : (t u : ActionSet) → Others t → Others u → t ≡ u
  others_same t u ot ou = actions_ext t u (λ x. grind (arith, other_too t u ot ou x, other_too u t ou ot x))

same_answer : (a b : Answer) → NotRefused a → NotRefused b → a.accepted ≡ b.accepted → a.cancelled ≡ b.cancelled → a ≡ b
same_answer a b x y s t = grind arith

-- a constraint that holds on a set holds on a larger one
more_violated : (cs : List Constraint) (rs : Readings) (s t : ActionSet) → s ⊆ t → Violated cs rs s → Violated cs rs t
more_violated cs rs s t h v = grind arith

module _ (p : Policy) (e : Epoch) where
  -- ---- the first mode

  abbrev Clashes : ℕ → Type 0
  Clashes s = Violated p.constraints e.readings (set_of s)

  more_clashes : (s t : ℕ) → Within s t → Clashes s → Clashes t
  more_clashes s t h = more_violated p.constraints e.readings (set_of s) (set_of t) (λ a. h a.0)

  others : (a : Answer) → Obeys p e a → Others (proposed p.rules e) a.accepted a.cancelled
  others a o = record { rest = o.rest; apart = o.apart }

  accepted_kept : (a : Answer) → Obeys p e a → Kept Clashes more_clashes (proposed p.rules e).bits a.accepted.bits
  accepted_kept a o =
      record {
        within = λ n. o.maximal.within (record { 0 = n });
        good = λ v. o.maximal.satisfies v.constraint v.listed v.holds;
        trial = λ n h k. o.lowest_first (record { 0 = n }) (other_in (proposed p.rules e) a.accepted a.cancelled (others a o) (record { 0 = n }) h k);
      }

  pub answer_determined : (a b : Answer) → Obeys p e a → Obeys p e b → a ≡ b
  answer_determined a b oa ob =
      let s : a.accepted ≡ b.accepted = ap set_of (kept_same Clashes more_clashes (proposed p.rules e).bits a.accepted.bits b.accepted.bits (accepted_kept a oa) (accepted_kept b ob)) in
      let t : a.cancelled ≡ b.cancelled = others_same (proposed p.rules e) a.accepted a.cancelled b.cancelled (others a oa) (rw s (others b ob)) in
      same_answer a b oa.issued ob.issued s t

  -- ---- the second mode

  abbrev Conflicts : ℕ → Type 0
  Conflicts kept = Violated p.constraints e.readings (proposed_with p.rules e (set_of kept))

  more_conflicts : (s t : ℕ) → Within s t → Conflicts s → Conflicts t
  more_conflicts s t h k = grind (arith, more_violated, more_proposed)

  event_others : (kept : EventSet) (a : Answer) → ObeysEvents p e kept a → Others (proposed p.rules e) a.accepted a.cancelled
  event_others kept a o = record { rest = o.rest; apart = o.apart }

  events_kept : (kept : EventSet) (a : Answer) → ObeysEvents p e kept a → Kept Conflicts more_conflicts e.events.bits kept.bits
  events_kept kept a o =
      record {
        within = λ n. o.maximal.reduction.within (record { 0 = n });
        good = λ v. o.maximal.reduction.consistent v.constraint v.listed v.holds;
        trial = λ n. o.own_trial (record { 0 = n });
      }

  pub events_answer_determined : (kept kept' : EventSet) (a b : Answer) → ObeysEvents p e kept a → ObeysEvents p e kept' b → (kept ≡ kept') × (a ≡ b)
  events_answer_determined kept kept' a b oa ob =
      let k : kept ≡ kept' = ap set_of (kept_same Conflicts more_conflicts e.events.bits kept.bits kept'.bits (events_kept kept a oa) (events_kept kept' b ob)) in
      let s : a.accepted ≡ b.accepted = oa.accepts ∙ ap (proposed_with p.rules e) k ∙ sym ob.accepts in
      let t : a.cancelled ≡ b.cancelled = others_same (proposed p.rules e) a.accepted a.cancelled b.cancelled (event_others kept a oa) (rw s (event_others kept' b ob)) in
      (k, same_answer a b oa.issued ob.issued s t)
