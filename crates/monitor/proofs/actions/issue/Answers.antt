use Rattle.std.proofs.Common.{arith}
use Rattle.policy.specs.declared.line.Part.{Part}
use Rattle.word.specs.Chunk.{words_in}
use Rattle.word.proofs.ChunkLaws.{words_in_length}
use Rattle.run.proofs.FetchLaws.{rule_fetches_few}
use Rattle.monitor.proofs.FewLaws.{tried_few}
use Rattle.monitor.proofs.actions.issue.Goals as goal

pub keep_proposed-kept-requires : goal.keep_proposed-kept-requires
keep_proposed-kept-requires c = record { whole = c.args.image.now.whole Part.Constraints; few = omega (arith, c.args.image.now.few Part.Constraints) }

pub run_rules-run-requires : goal.run_rules-run-requires
run_rules-run-requires c = record { whole = c.args.image.now.whole Part.Rules }

pub overflow_add-result : goal.overflow_add-result
overflow_add-result c =
    let few = words_in_length c.args.image.now.parts.constraints.now in
    let rules_few = rule_fetches_few c.args.epoch.now.readings (words_in c.args.image.now.parts.rules.now) c.all.result in
    let tried = tried_few (words_in c.args.image.now.parts.constraints.now) (omega (arith, c.args.image.now.few Part.Constraints)) c.args.epoch.now.readings c.run_rules-run.result.effects.actions in
    omega (arith, words_in_length c.args.image.now.parts.rules.now, c.keep_proposed-kept.ensures.words, c.run_rules-run.ensures.words)
