use Rattle.std.proofs.Common.{◌≡◌}
use Rattle.output.specs.Sink.{fed}
use Rattle.policy.specs.Set.{members_of}
use Rattle.report.specs.Report.{action_names}
use Rattle.report.proofs.ActionLaws.{members, remaining}
use Rattle.report.proofs.action.put_actions.Given as goal

abbrev pub invariant-loop-number : goal.invariant-loop-number
invariant-loop-number g l =
    fed g.S.Sink.taken l.sink (remaining l.first (members l.set.bits l.number)) ≡ fed g.S.Sink.taken l.initial.sink (action_names (members_of l.set))
