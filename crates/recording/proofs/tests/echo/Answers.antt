use Rattle.std.proofs.lemmas.Result.{on_ok_weaker}
use Rattle.recording.proofs.EchoLaws.{echoed}
use Rattle.recording.proofs.tests.echo.Goals as goal

pub returns : goal.returns
returns g c =
    on_ok_weaker c.converse.result (echoed c.new-machine.result c.new-machine.ensures c.args.ends.now.tape c.converse.new.ends.tape c.requires.fresh)
    c.converse.ensures.ok
