use Rattle.std.proofs.Common.{refl, arith}
use Rattle.guarantees.specs.Together.{decided_lines}
use Rattle.guarantees.proofs.LineLaws.{pending_behind, line_decided, all_done}
use Rattle.guarantees.proofs.decide_lines.Goals as goal

pub loop-i-init : goal.loop-i-init
unfolding decided_lines pending_behind
loop-i-init c = record { decisions = refl; pending = refl }

pub loop-i-preserved : goal.loop-i-preserved
loop-i-preserved c =
    let inv = c.loop-i.invariant in
    let more = line_decided _ _ _ _ _ _ _ _ _ inv.decisions inv.pending c.step.ensures (omega (arith, c.loop-i-test.true, c.min-i-end.ensures)) in
    record { decisions = more.0; pending = more.1 }

pub returns : goal.returns
returns c = grind (arith, all_done)
