use Rattle.std.proofs.Common.{◌-◌}
use Rattle.word.specs.Chunk.{words_in}
use Rattle.policy.specs.Epoch.{viewed}
use Rattle.run.proofs.WaitLaws.{Along}
use Rattle.run.proofs.reach.reach.Given as goal

abbrev pub invariant-loop-at : goal.invariant-loop-at
invariant-loop-at l = Along (viewed l.readings) (words_in l.words) l.set l.from l.end l.at

abbrev pub decreases-loop-at : goal.decreases-loop-at
decreases-loop-at l = l.end - l.at
