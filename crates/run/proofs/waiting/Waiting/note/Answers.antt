use Rattle.std.proofs.Common.{arith}
use Rattle.run.specs.Steps.Wait.{waits_for}
use Rattle.run.proofs.waiting.Waiting.note.Goals as goal

pub bounds-self-action : goal.bounds-self-action
unfolding waits_for
bounds-self-action c = grind (arith, c.requires.under c.in-Lacks.action.0)

pub bounds-self-action-in-Lacks : goal.bounds-self-action-in-Lacks
unfolding waits_for
bounds-self-action-in-Lacks c = grind (arith, c.requires.under c.in-Lacks.action.0)
