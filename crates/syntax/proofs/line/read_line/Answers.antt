use Rattle.std.proofs.Common.{arith, ne_eqb}
use Rattle.syntax.proofs.JudgeLaws.{line_faulty}
use Rattle.syntax.proofs.line.read_line.Goals as goal

pub returns-in_err-judged : goal.returns-in_err-judged
returns-in_err-judged c = grind (arith, ne_eqb, line_faulty)
