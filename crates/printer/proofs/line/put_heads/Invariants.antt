use Rattle.std.proofs.Common.{◌≡◌, drop}
use Rattle.lexer.specs.Byte.{bytes}
use Rattle.output.specs.Sink.{fed}
use Rattle.printer.specs.Steps.Value.{test_token, linked}
use Rattle.printer.proofs.line.put_heads.Given as goal

abbrev pub invariant-loop-head : goal.invariant-loop-head
invariant-loop-head g l =
    fed g.S.Sink.taken l.sink (linked test_token (bytes " & ") (bytes " & ") (drop l.head-index l.others))
    ≡ fed g.S.Sink.taken l.initial.sink (linked test_token (bytes " & ") (bytes " & ") l.others)
