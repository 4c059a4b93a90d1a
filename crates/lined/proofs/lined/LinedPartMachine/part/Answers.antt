use Rattle.std.proofs.Common.{length, take, arith}
use Rattle.lined.proofs.LineLaws.{part_handed}
use Rattle.lined.proofs.lined.LinedPartMachine.part.Goals as goal

pub returns : goal.returns
returns g c =
    let self = c.args.self.now in
    let same = part_handed (length self.held.now) _ (take self.size self.held.now) _ c.args.bytes.now c.keep-self.auto.front c.keep-self.ensures.value c.requires in
    record { at_once = λ rest. grind (arith, same rest); in_all = λ rest. grind (arith, same rest) }
