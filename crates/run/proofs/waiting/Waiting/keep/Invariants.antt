use Rattle.policy.specs.Epoch.{viewed}
use Rattle.word.specs.Chunk.{words_in}
use Rattle.run.proofs.StandLaws.{Keeping}
use Rattle.run.proofs.waiting.Waiting.keep.Given as goal

abbrev pub invariant-loop-left : goal.invariant-loop-left
invariant-loop-left l = Keeping (viewed l.view) (words_in l.words) l.fn.kept l.fn.action.0 l.more l.fn.self l.self l.left l.line

abbrev pub decreases-loop-left : goal.decreases-loop-left
decreases-loop-left l = l.left
