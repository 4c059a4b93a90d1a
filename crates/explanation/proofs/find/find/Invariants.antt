use Rattle.std.proofs.Common.{length}
use Rattle.syntax.specs.Walk.{lines_ahead}
use Rattle.explanation.proofs.FindLaws.{Seeking}
use Rattle.explanation.proofs.find.find.Given as goal

abbrev pub invariant-loop-here : goal.invariant-loop-here
invariant-loop-here l = Seeking l.text l.sought l.epoch (lines_ahead l.lines)

abbrev pub decreases-loop-here : goal.decreases-loop-here
decreases-loop-here l = length (lines_ahead l.lines)
