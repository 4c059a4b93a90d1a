use Rattle.std.proofs.Common.{sym, ◌∙◌, arith, rules}
use Rattle.codegen.proofs.AcceptedLaws.{newest_known}
use Rattle.codegen.proofs.RoomLaws.{compiled_refusal, compiled_read}
use Rattle.codegen.specs.Compile.{newest_form}
use Rattle.report.proofs.LengthLaws.{refusal_short}
use Rattle.session.specs.Printed.{printed_for, answers_to}
use Rattle.session.proofs.TextLaws.{accepted_prints}
use Rattle.session.proofs.text.end_text.Goals as goal

pub returns-in-Err : goal.returns-in-Err
unfolding printed_for answers_to
returns-in-Err g c = grind (arith, compiled_refusal, newest_known, refusal_short)

pub returns-in-Ok : goal.returns-in-Ok
returns-in-Ok g c =
    let read = compiled_read newest_form newest_known c.args.text.now _ c.requires c.in-Ok.size (sym c.compile.ensures.answer ∙ c.in-Ok.is) in
    let ends = accepted_prints _ _ _ _ c.compile.ensures.buffer read in
    record { same = search rules; within = search (rules, arith); puts = rw ends.0 (sym (g.met.S.Sink.none c.args.sink.now)); short = rw ends.0 (omega arith); ends = ends }
