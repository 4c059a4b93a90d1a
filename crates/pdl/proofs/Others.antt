-- The proposed actions that are not issued.
use Rattle.std.proofs.Common.{arith, true, false, not, ◌&&◌, ◌≡◌}
use Rattle.std.proofs.lemmas.Bool.{and_parts}
use Rattle.policy.proofs.SetLaws.{has_empty, has_union, has_difference}
use Rattle.policy.specs.Set.{ActionSet, has_action, no_actions, union_actions, actions_without}
use Rattle.policy.specs.declared.number.Action.{Action}
use Rattle.pdl.proofs.Resolution.{actions_ext}
use Rattle.pdl.specs.Pdl.{◌⊆◌}

module _ (proposed issued : ActionSet) where
  abbrev others : ActionSet
  others = actions_without proposed issued

  pub has_others : (a : Action) → has_action others a ≡ has_action proposed a && not (has_action issued a)
  has_others a = grind (arith, has_difference)

  pub others_apart : (a : Action) → has_action others a ≡ true → has_action issued a ≡ false
  others_apart a h = grind (arith, and_parts, has_others)

  pub with_others : issued ⊆ proposed → union_actions issued others ≡ proposed
  with_others within = grind (arith, actions_ext, has_union, has_others)

  pub no_others : issued ≡ proposed → others ≡ no_actions
  no_others same = grind (arith, actions_ext, has_others, has_empty)
