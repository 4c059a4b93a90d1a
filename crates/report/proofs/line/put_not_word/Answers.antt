use Rattle.lexer.specs.Byte.{bytes}
use Rattle.output.proofs.SinkLaws.{fed_then}
use Rattle.report.specs.Report.{not_word_line}
use Rattle.report.proofs.line.put_not_word.Goals as goal

pub returns : goal.returns
unfolding not_word_line bytes
returns g c =
    let t = g.S.Sink.taken in
    fed_then t _ _ _ (fed_then t _ _ _ (fed_then t _ _ _ c.put.ensures c.put_number.ensures) c.put-2.ensures) c.put-3.ensures
