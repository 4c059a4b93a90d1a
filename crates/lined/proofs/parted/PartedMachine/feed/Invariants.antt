-- What the front of the chunk makes due was printed, and as long as nothing was taken nothing more waits.
use Rattle.std.proofs.Common.{◌≡◌, ◌-◌, ◌≤◌, [], length, take}
use Rattle.stream.specs.Machine.{Goes}
use Rattle.lined.specs.Waiting.{waiting, given_behind, printed_behind}
use Rattle.lined.proofs.parted.PartedMachine.feed.Given as goal

abbrev pub invariant-loop-at : goal.invariant-loop-at
invariant-loop-at g l = record {
  within : l.at ≤ length l.chunk;
  first : l.at ≡ 0 → l.self.used ≡ l.initial.self.used;
  goes : Goes (given_behind g.P.PartMachine.given) (printed_behind g.P.PartMachine.printed)
      (waiting l.initial.self.machine l.initial.self.out.now l.initial.self.used)
      (waiting l.self.machine l.self.out.now l.self.used) (take l.at l.chunk) [];
}

abbrev pub decreases-loop-at : goal.decreases-loop-at
decreases-loop-at g l = length l.chunk - l.at
