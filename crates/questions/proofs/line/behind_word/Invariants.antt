use Rattle.std.proofs.Common.{◌≡◌, length}
use Rattle.lexer.specs.Lines.{drop_leading}
use Rattle.questions.specs.Answered.{in_word}
use Rattle.questions.proofs.line.behind_word.Given as goal

abbrev pub invariant-loop-rest : goal.invariant-loop-rest
invariant-loop-rest l = drop_leading in_word l.rest ≡ drop_leading in_word l.line

abbrev pub decreases-loop-rest : goal.decreases-loop-rest
decreases-loop-rest l = length l.rest
