-- The accepted set precedes every other set of proposed actions on which no constraint holds, and is the only such set that does.
use Rattle.std.proofs.Common.{arith, List, inl, inr, ap, subst, sym, ⊎_elim, ◌^◌, ◌<◌, ◌↔◌, ◌∙◌, ◌≡◌, ◌⊎◌, true}
use Rattle.policy.specs.declared.epoch.Epoch.{Epoch}
use Rattle.policy.specs.declared.epoch.Readings.{Readings}
use Rattle.policy.specs.Policy.{Policy, Constraint}
use Rattle.policy.specs.Set.{ActionSet, all_events, has_action, set_of}
use Rattle.policy.specs.declared.number.Action.{Action}
use Rattle.pdl.proofs.GreedyLaws.{greedy_best, greedy_differs}
use Rattle.pdl.proofs.Proposals.{proposals_limit}
use Rattle.pdl.proofs.Resolution.{bad, bad_monotone, no_conflict, resolve_within, resolve_satisfies}
use Rattle.pdl.specs.Best.{LowestDifference, Precedes, BestIn}
use Rattle.pdl.specs.Pdl.{Satisfies, NameActions, ◌⊆◌}
use Rattle.pdl.specs.Yield.{resolve, proposed, accepted}

-- ---- what is kept of any set of the 64 actions

module _ (constraints : List Constraint) (rs : Readings) (t : ActionSet) (limit : t.bits < 2 ^ 64) where
  module _ (u : ActionSet) (within : u ⊆ t) (good : Satisfies constraints rs u) where
    pub resolve_best : (a : Action) → LowestDifference (resolve constraints rs t) u a → has_action (resolve constraints rs t) a ≡ true
    unfolding resolve
    resolve_best a d =
        greedy_best (bad constraints rs) t.bits (bad_monotone constraints rs) limit u.bits (λ n. within (record { 0 = n })) (no_conflict constraints rs u good) a.0
        (d.differs, λ m. d.lower (record { 0 = m }))

    resolve_differs : (u ≡ resolve constraints rs t) ⊎ ((a : Action) × LowestDifference (resolve constraints rs t) u a)
    unfolding resolve
    resolve_differs =
        ⊎_elim (λ e. inl (ap set_of e)) (λ d. inr (record { 0 = d.0 }, record { differs = d.1.0; lower = λ b. d.1.1 b.0 }))
        (greedy_differs (bad constraints rs) t.bits (bad_monotone constraints rs) limit u.bits (λ n. within (record { 0 = n })) (no_conflict constraints rs u good))

    pub resolve_precedes : ¬ (u ≡ resolve constraints rs t) → Precedes (resolve constraints rs t) u
    resolve_precedes other = grind (arith, resolve_best, resolve_differs)

  -- it precedes every other subset that satisfies the constraints, and nothing else does
  pub resolve_is_best : NameActions constraints → (s : ActionSet) → BestIn constraints rs t s ↔ (s ≡ resolve constraints rs t)
  resolve_is_best named s = (only, λ e. subst (BestIn constraints rs t) (sym e) kept)
    where
      kept : BestIn constraints rs t (resolve constraints rs t)
      kept = record { within = resolve_within constraints rs t; satisfies = resolve_satisfies constraints rs t named; best = resolve_precedes }

      only : BestIn constraints rs t s → s ≡ resolve constraints rs t
      only b = ⊎_elim (λ e. e) (λ d. absurd (clash d)) (resolve_differs s b.within b.satisfies)
        where
          clash : (a : Action) × LowestDifference (resolve constraints rs t) s a → ⊥
          clash d =
              let p = b.best (resolve constraints rs t) kept.within kept.satisfies (λ e. d.1.differs (ap (λ (x : ActionSet). has_action x d.0) e)) in
              let k = resolve_best s b.within b.satisfies p.action (record { differs = λ e. p.lowest.differs (sym e); lower = λ c h. sym (p.lowest.lower c h) }) in
              p.lowest.differs (p.holds ∙ sym k)

-- ---- the accepted set

module _ (p : Policy) (e : Epoch) where
  pub accepted_best : (u : ActionSet) → u ⊆ proposed p.rules e → Satisfies p.constraints e.readings u → (a : Action) → LowestDifference (accepted p e) u a → has_action (accepted p e) a ≡ true
  unfolding accepted
  accepted_best = resolve_best p.constraints e.readings (proposed p.rules e) (proposals_limit p.rules (all_events e.events) e.readings)

  pub accepted_only_best : NameActions p.constraints → (s : ActionSet) → BestIn p.constraints e.readings (proposed p.rules e) s ↔ (s ≡ accepted p e)
  unfolding accepted
  accepted_only_best = resolve_is_best p.constraints e.readings (proposed p.rules e) (proposals_limit p.rules (all_events e.events) e.readings)
