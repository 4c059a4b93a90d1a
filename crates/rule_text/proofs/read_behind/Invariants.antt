use Rattle.std.proofs.Common.{◌≡◌, length}
use Rattle.syntax.specs.Lines.{lines_in}
use Rattle.syntax.specs.Walk.{lines_ahead}
use Rattle.rule_text.specs.Steps.Counting.{count_lines}
use Rattle.rule_text.specs.Steps.Tally.{Small}
use Rattle.rule_text.proofs.read_behind.Given as goal

abbrev pub invariant-loop-lines : goal.invariant-loop-lines
invariant-loop-lines l = record {
  same : count_lines l.counts (lines_ahead l.lines) ≡ count_lines l.initial.counts (lines_in l.form l.text);
  small : Small l.counts;
}

abbrev pub decreases-loop-lines : goal.decreases-loop-lines
decreases-loop-lines l = length (lines_ahead l.lines)
