use Rattle.std.proofs.Common.{◌++◌, ◌∙◌, ap, take, arith}
use Rattle.output.specs.Sink.{fed}
use Rattle.questions.specs.Steps.Left.{no_line, last_line}
use Rattle.questions.proofs.LeftLaws.{alike_here, compiled_read, line_answered, tells_none, tells_last, end_goes}
use Rattle.questions.proofs.LineLaws.{nothing_short}
use Rattle.questions.proofs.Room.{answered_short}
use Rattle.questions.proofs.explainer.ExplainerPartMachine.end_line.Goals as goal

pub invariant_of-self-clause-short : goal.invariant_of-self-clause-short
invariant_of-self-clause-short g c = nothing_short

pub returns-clause-puts : goal.returns-clause-puts
returns-clause-puts g c =
    let e = c.args.self.now in
    let goes = c.take_part-self.ensures.goes in
    let same = alike_here _ _ e.at.names (take e.at.size e.held ++ c.args.part.now) goes.alike in
    c.put_question.ensures ∙ ap (fed g.S.Sink.taken c.args.sink.now) (line_answered e.maker.now e.site.now e.image.now (compiled_read _ _ e.compiled) _ _ _ _ _ goes.short same)

pub returns-clause-short : goal.returns-clause-short
returns-clause-short g c =
    let e = c.args.self.now in
    let goes = c.take_part-self.ensures.goes in
    let same = alike_here _ _ e.at.names (take e.at.size e.held ++ c.args.part.now) goes.alike in
    answered_short e.maker.now e.site.now e.image.now (compiled_read _ _ e.compiled) _ _ _ _ goes.short same _ (omega arith)

pub returns-clause-goes : goal.returns-clause-goes
returns-clause-goes g c =
    let e = c.args.self.now in
    record {
      at_once = end_goes e.maker.now e.site.now (no_line e.maker.now e.site.now) (tells_none e.maker.now e.site.now) e.number e.at.names (take e.at.size e.held) c.args.part.now c.requires;
      in_all = end_goes e.maker.now e.site.now (last_line e.maker.now e.site.now) (tells_last e.maker.now e.site.now) e.number e.at.names (take e.at.size e.held) c.args.part.now c.requires;
    }
