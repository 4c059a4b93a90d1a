use Rattle.std.proofs.Common.{take}
use Rattle.questions.specs.Steps.Left.{no_line, last_line}
use Rattle.questions.proofs.LeftLaws.{tells_none, tells_last, part_goes}
use Rattle.questions.proofs.explainer.ExplainerPartMachine.part.Goals as goal

pub returns : goal.returns
returns c =
    let e = c.args.self.now in
    let alike = c.take_part-self.ensures.goes.alike in
    record {
      at_once = part_goes e.maker.now e.site.now (no_line e.maker.now e.site.now) (tells_none e.maker.now e.site.now) e.number e.at.names (take e.at.size e.held) c.args.bytes.now c.requires _ _ alike;
      in_all = part_goes e.maker.now e.site.now (last_line e.maker.now e.site.now) (tells_last e.maker.now e.site.now) e.number e.at.names (take e.at.size e.held) c.args.bytes.now c.requires _ _ alike;
    }
