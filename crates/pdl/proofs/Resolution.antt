-- Laws of resolving: when a set of actions has a conflict, and what is kept of it.
use Rattle.std.proofs.Common.{arith, ap, ℕ, ◌^◌, ◌<◌, Bool, true, false, List, [], ◌∷◌, Contains, ◌≡◌, refl}
use Rattle.std.proofs.lemmas.Bool.{false_from_ne_true, and_from, and_parts}
use Rattle.pdl.proofs.GreedyLaws.{Monotone, greedy_kept, greedy_dropped, greedy_within, greedy_good, greedy_maximal, greedy_limit}
use Rattle.policy.proofs.ListLaws.{contains_first, all_in, all_out, any_in, any_out}
use Rattle.policy.proofs.MissingLaws.{fewer_in_constraint}
use Rattle.policy.proofs.SetLaws.{has_empty, has_limit, set_ext}
use Rattle.policy.specs.Comparison.{comparison_holds}
use Rattle.policy.specs.Epoch.{SomeOf}
use Rattle.policy.specs.declared.epoch.Readings.{Readings}
use Rattle.std.specs.List.{list_all}
use Rattle.policy.specs.Number.{set_limit}
use Rattle.pdl.specs.Pdl.{HoldsOn, Violated, Satisfies, NameActions, ◌⊆◌}
use Rattle.policy.specs.Policy.{Constraint}
use Rattle.policy.specs.Set.{ActionSet, has_action, no_actions, insert_action, actions_below, set_of}
use Rattle.pdl.specs.Yield.{constraint_holds, conflict, resolve}
use Rattle.policy.specs.declared.comparison.Comparison.{Comparison}
use Rattle.policy.specs.declared.line.Part.{Part}
use Rattle.policy.specs.declared.number.Action.{Action}

-- two sets of actions with the same members are equal
pub actions_ext : (s t : ActionSet) → ((a : Action) → has_action s a ≡ has_action t a) → s ≡ t
actions_ext s t h = ap set_of (set_ext s.bits t.bits (λ n. h (record { 0 = n })))

-- ---- when a constraint holds

pub holds_in : (rs : Readings) (s : ActionSet) (c : Constraint) → HoldsOn rs s c → constraint_holds rs s c ≡ true
unfolding constraint_holds
holds_in rs s c h = and_from _ _ (all_in (has_action s) c.actions h.members) (all_in (comparison_holds Part.Constraints rs) c.comparisons h.condition)

pub holds_out : (rs : Readings) (s : ActionSet) (c : Constraint) → constraint_holds rs s c ≡ true → HoldsOn rs s c
unfolding constraint_holds
holds_out rs s c h =
    let parts = and_parts (list_all (has_action s) c.actions) (list_all (comparison_holds Part.Constraints rs) c.comparisons) h in
    record { members = all_out (has_action s) c.actions parts.0; condition = all_out (comparison_holds Part.Constraints rs) c.comparisons parts.1 }

module _ (constraints : List Constraint) (rs : Readings) where
  pub conflict_in : (s : ActionSet) → Violated constraints rs s → conflict constraints rs s ≡ true
  unfolding conflict
  conflict_in s v = any_in (constraint_holds rs s) constraints v.constraint v.listed (holds_in rs s v.constraint v.holds)

  pub conflict_out : (s : ActionSet) → conflict constraints rs s ≡ true → Violated constraints rs s
  unfolding conflict
  conflict_out s h = grind (arith, any_out, holds_out)

  pub satisfied : (s : ActionSet) → conflict constraints rs s ≡ false → Satisfies constraints rs s
  satisfied s h c m k = grind (arith, conflict_in)

  pub no_conflict : (s : ActionSet) → Satisfies constraints rs s → conflict constraints rs s ≡ false
  no_conflict s h = false_from_ne_true (conflict constraints rs s) (λ e. let v = conflict_out s e in h v.constraint v.listed v.holds)

  abbrev pub bad : ℕ → Bool
  bad kept = conflict constraints rs (set_of kept)

  -- what holds on a set holds on a larger one
  pub conflict_more : (s t : ActionSet) → s ⊆ t → conflict constraints rs s ≡ true → conflict constraints rs t ≡ true
  conflict_more s t h e = grind (arith, conflict_out, conflict_in)

  pub bad_monotone : Monotone bad
  bad_monotone s t h = conflict_more (set_of s) (set_of t) (λ a. h a.0)

  none_named : (actions : List Action) → ¬ (actions ≡ []) → ((a : Action) → Contains actions a → has_action no_actions a ≡ true) → ⊥
  none_named [] named h = named refl
  none_named (a ∷ rest) named h = cc (h a (contains_first a rest), has_empty a.0)

  bad_empty : NameActions constraints → bad 0 ≡ false
  bad_empty named = no_conflict no_actions (λ c m h. none_named c.actions (named c m) h.members)

  -- what is violated stays so with fewer readings
  pub fewer_violated : (fewer : Readings) → SomeOf fewer rs → (s : ActionSet) → Violated constraints rs s → Violated constraints fewer s
  fewer_violated fewer some_of s v =
      let condition = λ (c : Comparison) (m : Contains v.constraint.comparisons c). fewer_in_constraint fewer rs some_of c (v.holds.condition c m) in
      record { constraint = v.constraint; listed = v.listed; holds = record { members = v.holds.members; condition = condition } }

  -- ---- what is kept of any set of actions

  module _ (s : ActionSet) where
    pub resolve_within : resolve constraints rs s ⊆ s
    unfolding resolve
    resolve_within a h = greedy_within bad s.bits a.0 h

    pub resolve_satisfies : NameActions constraints → Satisfies constraints rs (resolve constraints rs s)
    unfolding resolve
    resolve_satisfies named = satisfied (resolve constraints rs s) (greedy_good bad s.bits (bad_empty named))

    pub resolve_maximal : s.bits < 2 ^ 64 → (u : ActionSet) → resolve constraints rs s ⊆ u → u ⊆ s → Satisfies constraints rs u → u ≡ resolve constraints rs s
    unfolding resolve
    resolve_maximal limit u h k good =
        ap set_of (greedy_maximal bad s.bits bad_monotone limit u.bits (λ n. k (record { 0 = n })) (no_conflict u good) (λ n. h (record { 0 = n })))

    -- what the trial of a member that is not kept showed
    pub resolve_dropped : s.bits < 2 ^ 64 → (a : Action) → has_action s a ≡ true → has_action (resolve constraints rs s) a ≡ false → Violated constraints rs (insert_action (actions_below (resolve constraints rs s) a) a)
    unfolding resolve
    resolve_dropped limit a h k = grind (arith, conflict_out, greedy_dropped, has_limit)

    -- what the trial of a member that is kept showed
    pub resolve_kept : (a : Action) → has_action (resolve constraints rs s) a ≡ true → Satisfies constraints rs (insert_action (actions_below (resolve constraints rs s) a) a)
    unfolding resolve
    resolve_kept a h = satisfied (insert_action (actions_below (resolve constraints rs s) a) a) (greedy_kept bad s.bits a.0 h).1

    pub resolve_limit : (a : Action) → has_action (resolve constraints rs s) a ≡ true → a.0 < set_limit
    unfolding resolve
    resolve_limit a h = greedy_limit bad s.bits a.0 h
