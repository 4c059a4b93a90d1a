use Rattle.std.proofs.Common.{◌+◌, ◌≡◌, length}
use Rattle.lexer.specs.Lines.{first_line}
use Rattle.explanation.specs.Part.{trim_end}
use Rattle.explanation.proofs.TrimLaws.{length_with}
use Rattle.explanation.proofs.find.trimmed_length.Given as goal

abbrev pub invariant-loop-rest : goal.invariant-loop-rest
invariant-loop-rest l = record {
  same : length (trim_end (first_line l.text)) ≡ length_with l.length l.passed (trim_end (first_line l.rest));
  inside : l.passed + length l.rest ≡ length l.text;
}

abbrev pub decreases-loop-rest : goal.decreases-loop-rest
decreases-loop-rest l = length l.rest
