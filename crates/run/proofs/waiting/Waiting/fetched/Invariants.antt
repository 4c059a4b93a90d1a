use Rattle.std.proofs.Common.{◌≡◌}
use Rattle.run.specs.Steps.Wait.{fetched}
use Rattle.run.proofs.waiting.Waiting.fetched.Given as goal

abbrev pub invariant-loop-n : goal.invariant-loop-n
invariant-loop-n l = l.words ≡ fetched l.self.starts l.self.behind l.n
