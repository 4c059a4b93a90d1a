use Rattle.std.proofs.Common.{◌≡◌, length}
use Rattle.token.specs.Steps.PartIn.{test_of}
use Rattle.lexer.specs.Steps.Scan.{tokens_in}
use Rattle.lexer.specs.Lines.{behind_line}
use Rattle.syntax.specs.Grammar.{joined}
use Rattle.syntax.specs.Steps.Outcome.{heads_outcome}
use Rattle.syntax.proofs.line.read_heads.Given as goal

abbrev pub invariant-loop-part : goal.invariant-loop-part
invariant-loop-part l = heads_outcome l.initial.draft (behind_line l.text) (joined (test_of l.never) (tokens_in l.text)) ≡ heads_outcome l.draft (behind_line l.rest) (joined (test_of l.never) (tokens_in l.rest))

abbrev pub decreases-loop-part : goal.decreases-loop-part
decreases-loop-part l = length l.rest
