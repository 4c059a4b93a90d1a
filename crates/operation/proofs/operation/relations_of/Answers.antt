use Rattle.std.proofs.Common.{true, false, ◌≡◌, refl, sym, ap, ap₂, ◌∙◌, to_z, of_z, w32, to_z-of_z}
use Rattle.std.specs.Int.Signed.{lt_z}
use Rattle.operation.specs.Operation.{relation_from}
use Rattle.operation.proofs.RelationLaws.{one_less, other_less, by_table}
use Rattle.operation.proofs.operation.relations_of.Goals as goal

pub returns-then-left-right : goal.returns-then-left-right
unfolding relation_from
returns-then-left-right c =
    let less = rw (to_z-of_z c.ranges.left, to_z-of_z c.ranges.right) at c.if-left-right.true in
    by_table 235802126 true false refl _ _ less (one_less c.args.left c.args.right less)

pub returns-then-left-right-2 : goal.returns-then-left-right-2
unfolding relation_from
returns-then-left-right-2 c =
    let same : c.args.left ≡ c.args.right = sym (to_z-of_z c.ranges.left) ∙ ap (to_z w32) c.if-left-right-2.true ∙ to_z-of_z c.ranges.right in
    let less = rw (to_z-of_z c.ranges.left, to_z-of_z c.ranges.right) at c.if-left-right.false in
    by_table 3924421097 false false refl _ _ less (ap₂ lt_z (sym same) same ∙ less)

pub returns-else-left-right-2 : goal.returns-else-left-right-2
unfolding relation_from
returns-else-left-right-2 c =
    let less = rw (to_z-of_z c.ranges.left, to_z-of_z c.ranges.right) at c.if-left-right.false in
    by_table 4076008178 false true refl _ _ less (other_less c.args.left c.args.right less (λ e. c.if-left-right-2.false (ap (of_z w32) e)))
