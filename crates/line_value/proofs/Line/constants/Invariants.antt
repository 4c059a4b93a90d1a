use Rattle.std.proofs.Common.{◌+◌, ◌≤◌, ◌≡◌, drop}
use Rattle.policy.specs.Line.{constant_count}
use Rattle.line_value.proofs.Line.constants.Given as goal

abbrev pub invariant-loop-comparison : goal.invariant-loop-comparison
invariant-loop-comparison l = record {
  counted : constant_count l.comparison-items ≡ l.constants + constant_count (drop l.comparison-index l.comparison-items);
  few : l.constants ≤ l.comparison-index;
}
