use Rattle.std.proofs.Common.{length, take, arith}
use Rattle.lined.proofs.LineLaws.{end_handed}
use Rattle.lined.proofs.lined.LinedPartMachine.end_line.Goals as goal

pub returns-clause-goes : goal.returns-clause-goes
returns-clause-goes g c =
    let self = c.args.self.now in
    let told = c.line_held.ensures in
    let same = end_handed (length self.held.now) _ (take self.size self.held.now) c.args.part.now told.kept c.requires in
    record { at_once = λ rest. grind (arith, same rest, told.goes); in_all = λ rest. grind (arith, same rest, told.goes) }
