use Rattle.std.proofs.Common.{refl, sym, ap, ◌∙◌, take, Ok, arith}
use Rattle.codegen.proofs.AcceptedLaws.{newest_known}
use Rattle.codegen.proofs.RoomLaws.{texts_read_is, texts_refusal}
use Rattle.codegen.specs.Compile.{newest_form}
use Rattle.questions.proofs.LeftLaws.{starts_answered, starts_due}
use Rattle.questions.proofs.LineLaws.{nothing_short}
use Rattle.questions.proofs.explainer.answer_questions.Goals as goal

pub returns-in-Err-clause-ok : goal.returns-in-Err-clause-ok
returns-in-Err-clause-ok g c =
    let refused = texts_refusal newest_form newest_known c.args.maker.now c.args.site.now _ refl _ (sym c.compile_texts.ensures.answer ∙ c.in-Err.is) in
    rw refused c.refuse.ensures.ok

pub returns-in-Err-clause-err : goal.returns-in-Err-clause-err
returns-in-Err-clause-err g c =
    let refused = texts_refusal newest_form newest_known c.args.maker.now c.args.site.now _ refl _ (sym c.compile_texts.ensures.answer ∙ c.in-Err.is) in
    rw refused c.refuse.ensures.err

pub invariant_of-explainer : goal.invariant_of-explainer
invariant_of-explainer g c =
    let made = c.compile_texts.ensures in
    let read = texts_read_is newest_form newest_known c.args.maker.now c.args.site.now _ refl _ (sym made.answer ∙ c.in-Ok.is) in
    record { compiled = rw read.read (ap Ok (sym (ap (take c.in-Ok.size) made.buffer ∙ read.image))); long = refl; within = omega arith; short = nothing_short }

pub returns-in-Ok-clause-ok : goal.returns-in-Ok-clause-ok
returns-in-Ok-clause-ok g c =
    let read = texts_read_is newest_form newest_known c.args.maker.now c.args.site.now _ refl _ (sym c.compile_texts.ensures.answer ∙ c.in-Ok.is) in
    rw (read.read, ← starts_answered _ _ _ read.read, ← starts_due _ _ _ read.read) c.answer_parts.ensures.ok

pub returns-in-Ok-clause-err : goal.returns-in-Ok-clause-err
returns-in-Ok-clause-err g c =
    let read = texts_read_is newest_form newest_known c.args.maker.now c.args.site.now _ refl _ (sym c.compile_texts.ensures.answer ∙ c.in-Ok.is) in
    rw (read.read, ← starts_answered _ _ _ read.read, ← starts_due _ _ _ read.read) c.answer_parts.ensures.err
