use Rattle.policy.specs.declared.line.Part.{Part}
use Rattle.monitor.proofs.decision.reserves.Goals as goal

pub reserved-requires : goal.reserved-requires
reserved-requires c = c.args.image.now.whole Part.Rules
