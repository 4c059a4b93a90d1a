use Rattle.policy.specs.declared.line.Part.{Part}
use Rattle.word.proofs.ChunkLaws.{words_in_length}
use Rattle.run.proofs.FetchLaws.{rule_fetches_few, trial_fetches_few}
use Rattle.std.proofs.Common.{arith}
use Rattle.monitor.proofs.events.try_events.Goals as goal

pub overflow_add-result : goal.overflow_add-result
overflow_add-result c = grind (arith, rule_fetches_few, trial_fetches_few, words_in_length)

pub run_rules-run-requires : goal.run_rules-run-requires
run_rules-run-requires c = record { whole = c.args.image.now.whole Part.Rules }

pub run_constraints-trial-requires : goal.run_constraints-trial-requires
run_constraints-trial-requires c = record { whole = c.args.image.now.whole Part.Constraints }
