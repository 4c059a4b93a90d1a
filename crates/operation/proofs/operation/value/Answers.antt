use Rattle.std.proofs.Common.{sym, ◌∙◌}
use Rattle.operation.proofs.HoldsLaws.{known_below}
use Rattle.operation.proofs.operation.value.Goals as goal

pub bounds-readings-number : goal.bounds-readings-number
bounds-readings-number c = (known_below c.args.readings.given.bits c.args.number (rw c.below.ensures at (sym c.has.ensures ∙ c.if-has.true))).0
