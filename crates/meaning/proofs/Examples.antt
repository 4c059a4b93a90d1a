-- Each row of the table of runs is as it says.
use Rattle.std.proofs.Common.{map, ◌≡◌, refl}
use Rattle.policy.specs.Comparison.{comparison_holds, relation_holds, operand_value, eq_z, missing_holds, values_relate}
use Rattle.policy.specs.Effect.{effect_number, with_effect}
use Rattle.policy.specs.Epoch.{reading_value}
use Rattle.policy.specs.Limits.{test_number}
use Rattle.policy.specs.Line.{heads_of, comparisons_of, ending_of}
use Rattle.policy.specs.Set.{has, insert}
use Rattle.operation.specs.Fields.{pack}
use Rattle.operation.specs.Operation.{operation_from, relation_from}
use Rattle.operation.specs.Said.{says_by, says, constants_of}
use Rattle.operation.specs.Parts.{test_operation, test_word, operand_word, constant_words, comparison_word, comparison_words, effect_operation, ending_word, constant_comparison, reading_comparison}
use Rattle.layout.specs.Layout.{condition_words, part_words, line_words, lines_words, rule_part_words, constraint_part_words}
use Rattle.run.specs.Run.{ran, rule_test, constraint_test, taking, run_rules, ends_constraint, run_constraints}
use Rattle.exactness.specs.Examples.{worked}
use Rattle.meaning.specs.Examples.{runs, computed}

pub runs_hold : map computed runs ≡ runs
unfolding worked runs computed test_number effect_number with_effect pack operation_from says says_by constants_of relation_from test_operation test_word operand_word constant_words comparison_word comparison_words effect_operation ending_word constant_comparison reading_comparison condition_words part_words line_words lines_words rule_part_words constraint_part_words heads_of comparisons_of ending_of ran rule_test constraint_test taking run_rules ends_constraint run_constraints comparison_holds relation_holds operand_value eq_z reading_value missing_holds values_relate has insert
runs_hold = refl
