use Rattle.std.proofs.Common.{◌≡◌, length}
use Rattle.epoch_line.specs.Steps.EpochScan.{scanned, epoch_from}
use Rattle.epoch_line.proofs.read_items.Given as goal

abbrev pub invariant-loop-front : goal.invariant-loop-front
invariant-loop-front l = record {
  same : epoch_from (scanned l.out_of_range l.twice l.events l.given l.epoch.readings.values) l.rest ≡ epoch_from (scanned l.initial.out_of_range l.initial.twice l.initial.events l.initial.given l.initial.epoch.readings.values) l.line;
}

abbrev pub decreases-loop-front : goal.decreases-loop-front
decreases-loop-front l = length l.rest
