use Rattle.std.proofs.Common.{◌+◌, ◌-◌, arith}
use Rattle.run.proofs.StandLaws.{fetched_next, fetched_grows}
use Rattle.run.proofs.waiting.Waiting.fetched.Goals as goal

pub overflow_add-words : goal.overflow_add-words
overflow_add-words c =
    let grows = fetched_grows c.args.self.now.starts c.args.self.now.behind (c.args.line - (c.loop-n.n + 1)) (c.loop-n.n + 1) c.args.line (omega arith) in
    omega (arith, fetched_next c.args.self.now.starts c.args.self.now.behind c.loop-n.n, c.requires.small)
