use Rattle.std.proofs.Common.{arith, append-nil, take}
use Rattle.output.proofs.RoomLaws.{put_take}
use Rattle.stream.proofs.EventLaws.{front_nil}
use Rattle.lined.proofs.parted.PartedMachine.finish.Goals as goal

pub returns : goal.returns
returns g c =
    let self = c.args.self.now in
    let told = c.conclude-self.ensures in
    let put = put_take self.out.now 0 _ _ _ (omega (arith, told.short, self.room)) (told.answer, told.buffer) in
    grind (arith, put, append-nil, g.met.P.PartMachine.quiet c.conclude-self.new.machine, front_nil (take self.used self.out.now) _ c.requires)
