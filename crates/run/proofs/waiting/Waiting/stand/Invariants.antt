use Rattle.std.proofs.Common.{◌-◌, length}
use Rattle.policy.specs.Epoch.{viewed}
use Rattle.word.specs.Chunk.{words_in}
use Rattle.run.proofs.StandLaws.{Setting}
use Rattle.run.proofs.waiting.Waiting.stand.Given as goal

abbrev pub invariant-loop-at : goal.invariant-loop-at
invariant-loop-at l = Setting (viewed l.view) (words_in l.words) l.self l.at

abbrev pub decreases-loop-at : goal.decreases-loop-at
decreases-loop-at l = length l.words - l.at
