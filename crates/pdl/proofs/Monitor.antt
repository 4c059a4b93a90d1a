-- The accepted and the cancelled actions of an epoch: a maximal action cancellation of what the rules propose, lower numbers kept
-- first (Definitions 11.1 to 11.3 of Chomicki, Lobo and Naqvi, "Conflict Resolution Using Logic Programming", TKDE 2003).
use Rattle.std.proofs.Common.{◌∷◌, arith, true, false, not, ◌&&◌, List, [], Contains, ◌≡◌, sym, arith}
use Rattle.std.proofs.lemmas.Bool.{false_from_ne_true, true_from_ne_false}
use Rattle.policy.proofs.ListLaws.{contains_one}
use Rattle.pdl.proofs.Others.{has_others, others_apart, with_others, no_others}
use Rattle.pdl.proofs.Proposals.{proposals_limit}
use Rattle.pdl.proofs.Resolution.{satisfied, conflict_out, resolve_within, resolve_satisfies, resolve_maximal, resolve_dropped, resolve_kept, resolve_limit}
use Rattle.policy.proofs.SetLaws.{has_insert_same}
use Rattle.policy.proofs.MissingLaws.{missing_in_constraint}
use Rattle.policy.specs.Comparison.{NamesMissing}
use Rattle.policy.specs.declared.epoch.Epoch.{Epoch}
use Rattle.pdl.specs.Pdl.{Condition, Violated, Satisfies, of_one_action, lone, NameActions, Monitor, Conservative, ActionCancellation, MaximalActionCancellation, ◌⊆◌}
use Rattle.policy.specs.Policy.{Policy}
use Rattle.policy.specs.Set.{ActionSet, all_events, has_action, no_actions, insert_action, union_actions, actions_below}
use Rattle.pdl.specs.Yield.{conflict, proposed, accepted, cancelled}
use Rattle.policy.specs.declared.comparison.Comparison.{Comparison}
use Rattle.policy.specs.declared.line.Part.{Part}
use Rattle.policy.specs.declared.number.Action.{Action}

module _ (p : Policy) where
  -- ---- accepted and cancelled against proposed

  pub accepted_within : ActionCancellation (proposed p.rules) (accepted p)
  unfolding accepted
  accepted_within e = resolve_within p.constraints e.readings (proposed p.rules e)

  has_cancelled : (e : Epoch) (a : Action) → has_action (cancelled p e) a ≡ has_action (proposed p.rules e) a && not (has_action (accepted p e) a)
  unfolding cancelled
  has_cancelled e a = grind (arith, has_others)

  pub accepted_with_cancelled : (e : Epoch) → union_actions (accepted p e) (cancelled p e) ≡ proposed p.rules e
  unfolding cancelled
  accepted_with_cancelled e = with_others (proposed p.rules e) (accepted p e) (accepted_within e)

  pub cancelled_apart : (e : Epoch) (a : Action) → has_action (cancelled p e) a ≡ true → has_action (accepted p e) a ≡ false
  unfolding cancelled
  cancelled_apart e a h = others_apart (proposed p.rules e) (accepted p e) a h

  -- ---- no constraint holds on the accepted set

  pub accepted_satisfies : NameActions p.constraints → Monitor p.constraints (accepted p)
  unfolding accepted
  accepted_satisfies named e = resolve_satisfies p.constraints e.readings (proposed p.rules e) named

  -- ---- giving back one or more cancelled actions makes one hold

  maximal : (e : Epoch) (u : ActionSet) → accepted p e ⊆ u → u ⊆ proposed p.rules e → Satisfies p.constraints e.readings u → u ≡ accepted p e
  unfolding accepted
  maximal e = resolve_maximal p.constraints e.readings (proposed p.rules e) (proposals_limit p.rules (all_events e.events) e.readings)

  pub giving_back_violates : (e : Epoch) (u : ActionSet) → accepted p e ⊆ u → u ⊆ proposed p.rules e → ¬ (u ≡ accepted p e) → Violated p.constraints e.readings u
  giving_back_violates e u h k other =
      conflict_out p.constraints e.readings u
      (true_from_ne_false (conflict p.constraints e.readings u) (λ q. other (maximal e u h k (satisfied p.constraints e.readings u q))))

  pub maximal_cancellation : NameActions p.constraints → MaximalActionCancellation p.constraints (proposed p.rules) (accepted p)
  maximal_cancellation named e = record { within = accepted_within e; satisfies = accepted_satisfies named e; maximal = maximal e }

  -- ---- nothing is cancelled where nothing clashes

  pub conservative : Conservative p.constraints (proposed p.rules) (accepted p)
  conservative e h = sym (maximal e (proposed p.rules e) (accepted_within e) (λ a k. k) h)

  pub nothing_cancelled : (e : Epoch) → Satisfies p.constraints e.readings (proposed p.rules e) → cancelled p e ≡ no_actions
  unfolding cancelled
  nothing_cancelled e h = grind (arith, no_others, conservative)

  -- ---- trials

  -- on the accepted actions under a cancelled one, together with it, some constraint holds
  pub cancelled_trial : (e : Epoch) (a : Action) → has_action (cancelled p e) a ≡ true → Violated p.constraints e.readings (insert_action (actions_below (accepted p e) a) a)
  unfolding accepted
  cancelled_trial e a h = grind (arith, resolve_dropped, proposals_limit, has_cancelled)

  -- a constraint with one action, where its condition holds
  module _ (a : Action) (cs : List Comparison) (listed : Contains p.constraints (of_one_action a cs)) (e : Epoch) (holds : Condition Part.Constraints e.readings cs) where
    tried : has_action (accepted p e) a ≡ true → (b : Action) → Contains (a ∷ []) b → has_action (insert_action (actions_below (accepted p e) a) a) b ≡ true
    unfolding accepted
    tried h b k = grind (arith, contains_one a b k, has_insert_same (actions_below (accepted p e) a).bits a.0, resolve_limit p.constraints e.readings (proposed p.rules e) a h)

    one_rejected : has_action (accepted p e) a ≡ false
    unfolding accepted
    one_rejected =
        false_from_ne_true (has_action (accepted p e) a)
        (λ h. resolve_kept p.constraints e.readings (proposed p.rules e) a h (of_one_action a cs) listed (record { members = tried h; condition = holds }))

    one_cancelled : has_action (proposed p.rules e) a ≡ true → has_action (cancelled p e) a ≡ true
    one_cancelled h = grind (arith, has_cancelled, one_rejected)

  pub lone_never_accepted : (a : Action) → Contains p.constraints (lone a) → (e : Epoch) → has_action (accepted p e) a ≡ false
  lone_never_accepted a m e = one_rejected a [] m e (λ c k. absurd (omega (arith, k.1)))

  pub lone_always_cancelled : (a : Action) → Contains p.constraints (lone a) → (e : Epoch) → has_action (proposed p.rules e) a ≡ true → has_action (cancelled p e) a ≡ true
  lone_always_cancelled a m e = one_cancelled a [] m e (λ c k. absurd (omega (arith, k.1)))

  -- where each comparison of such a constraint names a missing reading, its action is cancelled whenever it is proposed
  pub missing_always_cancelled : (a : Action) (cs : List Comparison) → Contains p.constraints (of_one_action a cs) → (e : Epoch)
      → ((c : Comparison) → Contains cs c → NamesMissing e.readings c) → has_action (proposed p.rules e) a ≡ true → has_action (cancelled p e) a ≡ true
  missing_always_cancelled a cs m e missing = one_cancelled a cs m e (λ c k. missing_in_constraint e.readings c (missing c k))
