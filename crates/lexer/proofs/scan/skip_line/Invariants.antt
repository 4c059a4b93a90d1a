use Rattle.std.proofs.Common.{◌≡◌, length}
use Rattle.lexer.specs.Lines.{behind_line}
use Rattle.lexer.proofs.scan.skip_line.Given as goal

abbrev pub invariant-loop-rest : goal.invariant-loop-rest
invariant-loop-rest l = behind_line l.rest ≡ behind_line l.text

abbrev pub decreases-loop-rest : goal.decreases-loop-rest
decreases-loop-rest l = length l.rest
