use Rattle.std.proofs.Common.{◌≡◌, drop}
use Rattle.lexer.specs.Byte.{bytes}
use Rattle.output.specs.Sink.{fed}
use Rattle.printer.specs.Steps.Value.{comparison_text, linked}
use Rattle.printer.proofs.line.put_condition.Given as goal

abbrev pub invariant-loop-comparison : goal.invariant-loop-comparison
invariant-loop-comparison g l =
    fed g.S.Sink.taken l.sink (linked comparison_text (bytes " , ") (bytes " , ") (drop l.comparison-index l.others))
    ≡ fed g.S.Sink.taken l.initial.sink (linked comparison_text (bytes " , ") (bytes " , ") l.others)
