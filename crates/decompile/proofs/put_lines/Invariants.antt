use Rattle.std.proofs.Common.{◌≡◌}
use Rattle.output.specs.Sink.{fed}
use Rattle.image.specs.Walk.{lines_ahead}
use Rattle.decompile.specs.Steps.Walk.{text_of_values}
use Rattle.decompile.proofs.put_lines.Given as goal

abbrev pub invariant-loop-line : goal.invariant-loop-line
invariant-loop-line g l =
    (goal.iterator-loop-line g).can_next l.line-iterator × (goal.iterator-loop-line g).is_finite l.line-iterator
    × (fed g.S.Sink.taken l.sink (text_of_values (lines_ahead l.line-iterator)) ≡ fed g.S.Sink.taken l.initial.sink (text_of_values (lines_ahead l.initial.lines)))
