use Rattle.std.proofs.Common.{[], length, take, sym, arith, append-nil, take_all}
use Rattle.output.proofs.RoomLaws.{put_take}
use Rattle.lined.proofs.EndLaws.{found_some}
use Rattle.lined.proofs.WaitLaws.{goes_behind, goes_line}
use Rattle.lined.proofs.parted.Parted.take_line.Goals as goal

pub answer-self-requires-clause-none : goal.answer-self-requires-clause-none
answer-self-requires-clause-none g c = (found_some c.args.bytes.now _ _ c.line_end.ensures c.in-Some.is).2

pub returns-in-Some-clause-goes : goal.returns-in-Some-clause-goes
returns-in-Some-clause-goes g c =
    let self = c.args.self.now in
    let told = c.answer-self.ensures in
    goes_line g.P.PartMachine.given g.P.PartMachine.printed self.machine _ (take self.used self.out.now) _ c.args.bytes.now _ c.in-Some.end
    (found_some c.args.bytes.now _ _ c.line_end.ensures c.in-Some.is)
    (put_take self.out.now self.used _ _ _ (omega (arith, told.short, self.waits, c.requires.room)) (told.answer, told.buffer)) told.goes

pub returns-in-None-clause-goes : goal.returns-in-None-clause-goes
returns-in-None-clause-goes g c =
    let self = c.args.self.now in
    let waits = take self.used self.out.now in
    rw (take_all (length c.args.bytes.now) c.args.bytes.now (omega arith))
    (goes_behind g.P.PartMachine.given g.P.PartMachine.printed self.machine _ waits waits c.args.bytes.now [] (sym (append-nil waits)) c.part.ensures)
