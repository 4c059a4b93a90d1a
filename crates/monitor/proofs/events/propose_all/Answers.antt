use Rattle.policy.specs.declared.line.Part.{Part}
use Rattle.monitor.proofs.events.propose_all.Goals as goal

pub run_rules-run-requires : goal.run_rules-run-requires
run_rules-run-requires c = record { whole = c.args.image.now.whole Part.Rules }
