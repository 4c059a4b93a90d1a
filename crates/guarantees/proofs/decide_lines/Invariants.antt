use Rattle.std.proofs.Common.{◌≡◌, take}
use Rattle.policy.specs.Set.{no_events}
use Rattle.guarantees.specs.Together.{decided_lines}
use Rattle.guarantees.proofs.LineLaws.{pending_behind}
use Rattle.guarantees.proofs.decide_lines.Given as goal

abbrev pub invariant-loop-i : goal.invariant-loop-i
invariant-loop-i l = record {
  decisions : l.decisions ≡ decided_lines l.image no_events (take l.i l.lines) l.initial.decisions;
  pending : l.state.pending ≡ pending_behind l.image no_events (take l.i l.lines);
}
