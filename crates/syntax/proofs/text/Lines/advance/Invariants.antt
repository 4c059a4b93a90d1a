use Rattle.std.proofs.Common.{◌≡◌, length}
use Rattle.syntax.specs.Walk.{lines_ahead}
use Rattle.syntax.proofs.text.Lines.advance.Given as goal

abbrev pub invariant-loop-text : goal.invariant-loop-text
invariant-loop-text l = lines_ahead l.self ≡ lines_ahead l.initial.self

abbrev pub decreases-loop-text : goal.decreases-loop-text
decreases-loop-text l = length l.self.rest.now
