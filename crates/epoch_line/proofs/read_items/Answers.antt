use Rattle.std.proofs.Common.{to_z-of_z, w32, SFits, sym, ◌∙◌, rules}
use Rattle.epoch_line.proofs.EpochLaws.{read_turn}
use Rattle.epoch_line.specs.Epoch.{add_item}
use Rattle.epoch_line.specs.Steps.EpochScan.{found, scanned, add_scanned}
use Rattle.epoch_line.proofs.read_items.Goals as goal

pub loop-front-preserved-in-Value : goal.loop-front-preserved-in-Value
unfolding found add_scanned add_item
loop-front-preserved-in-Value c =
    let s = scanned c.loop-front.out_of_range c.loop-front.twice c.loop-front.events c.loop-front.given c.loop-front.epoch.readings.values in
    let f : SFits w32 c.in-Value.value = search rules in
    record { same = rw (to_z-of_z f, c.insert-given.ensures, c.has-twice.ensures) (sym (read_turn s c.loop-front.rest.now _ c.skip_spaces-front.ensures _ c.is_empty.ensures _ c.in-Value.ensures c.if-is_empty.false) ∙ c.loop-front.invariant.same) }
