-- Each row of the tables of examples is as it says.
use Rattle.std.proofs.Common.{map, ◌≡◌, refl}
use Rattle.policy.specs.Comparison.{comparison_holds, relation_holds, operand_value, missing_holds, values_relate}
use Rattle.policy.specs.Effect.{with_effect}
use Rattle.policy.specs.Epoch.{reading_value}
use Rattle.pdl.specs.Examples.{examples, yielded, expected, choices, lowest_from, compared, expected_choice, reductions, reduced_of, expected_reduced}
use Rattle.pdl.specs.Greedy.{greedy, kept_below, try_next}
use Rattle.policy.specs.Set.{has, insert}
use Rattle.pdl.specs.Reduction.{clashes, kept_events, issued, withheld}
use Rattle.pdl.specs.Yield.{literal_holds, rule_holds, take_effect, effects_where, constraint_holds, conflict, resolve, accepted, cancelled}

pub examples_hold : map yielded examples ≡ map expected examples
unfolding examples yielded expected has insert reading_value missing_holds values_relate relation_holds operand_value comparison_holds literal_holds rule_holds take_effect effects_where with_effect constraint_holds conflict resolve accepted cancelled greedy kept_below try_next
examples_hold = refl

pub choices_hold : map compared choices ≡ map expected_choice choices
unfolding choices lowest_from compared expected_choice has insert reading_value missing_holds values_relate relation_holds operand_value comparison_holds literal_holds rule_holds take_effect effects_where with_effect constraint_holds conflict resolve accepted greedy kept_below try_next
choices_hold = refl

pub reductions_hold : map reduced_of reductions ≡ map expected_reduced reductions
unfolding reductions reduced_of expected_reduced has insert literal_holds rule_holds take_effect effects_where with_effect constraint_holds conflict clashes kept_events issued withheld greedy kept_below try_next
reductions_hold = refl
