use Rattle.std.proofs.Common.{◌≡◌, length}
use Rattle.lexer.specs.Steps.Scan.{tokens_in}
use Rattle.lexer.specs.Lines.{behind_line}
use Rattle.syntax.specs.Grammar.{comparisons_from}
use Rattle.syntax.specs.Steps.Outcome.{condition_outcome}
use Rattle.syntax.proofs.line.read_comparisons.Given as goal

abbrev pub invariant-loop-part : goal.invariant-loop-part
invariant-loop-part l = condition_outcome l.initial.draft (behind_line l.text) (comparisons_from (tokens_in l.text)) ≡ condition_outcome l.draft (behind_line l.rest) (comparisons_from (tokens_in l.rest))

abbrev pub decreases-loop-part : goal.decreases-loop-part
decreases-loop-part l = length l.rest
