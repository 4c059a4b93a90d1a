use Rattle.lexer.specs.Byte.{bytes}
use Rattle.output.proofs.SinkLaws.{fed_then}
use Rattle.report.specs.Report.{not_proposed_line}
use Rattle.report.proofs.question.put_not_proposed.Goals as goal

pub returns : goal.returns
unfolding not_proposed_line bytes
returns g c = let t = g.S.Sink.taken in fed_then t _ _ _ (fed_then t _ _ _ c.put_number.ensures c.put.ensures) c.put-2.ensures
