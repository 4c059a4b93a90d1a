use Rattle.std.proofs.Common.{length}
use Rattle.syntax.specs.Walk.{lines_ahead}
use Rattle.codegen.proofs.PutLaws.{Putting}
use Rattle.codegen.proofs.put_lines.Given as goal

abbrev pub invariant-loop-out : goal.invariant-loop-out
invariant-loop-out l = Putting l.form l.text l.initial.out l.initial.cursors l.out l.cursors (lines_ahead l.lines)

abbrev pub decreases-loop-out : goal.decreases-loop-out
decreases-loop-out l = length (lines_ahead l.lines)
