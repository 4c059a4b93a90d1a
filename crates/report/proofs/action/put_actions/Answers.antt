use Rattle.std.proofs.Common.{arith}
use Rattle.output.proofs.SinkLaws.{put_laws}
use Rattle.report.specs.Report.{action_names, further_names}
use Rattle.report.proofs.ActionLaws.{remaining, member_laws}
use Rattle.report.proofs.action.put_actions.Goals.{then-has, else-has}
use Rattle.report.proofs.action.put_actions.Goals as goal

pub loop-number-preserved : goal.loop-number-preserved
unfolding remaining action_names further_names
loop-number-preserved g c =
    elim c.if-has.branch [
      | then-has w ↦ grind (arith, put_laws, member_laws, w.put_member.ensures, w.if-has.true, c.loop-number.invariant)
      | else-has w ↦ grind (arith, put_laws, member_laws, w.if-has.false, c.loop-number.invariant)
    ]
