-- Each row of the table of examples is as it says.
use Rattle.std.proofs.Common.{map, ◌≡◌, refl}
use Rattle.policy.specs.Effect.{effect_number, with_effect}
use Rattle.policy.specs.Set.{has, insert, below}
use Rattle.policy.specs.Epoch.{reading_value}
use Rattle.policy.specs.Comparison.{eq_z, relation_holds, operand_value, comparison_holds, missing_holds, values_relate}
use Rattle.policy.specs.Line.{heads_of, comparisons_of, ending_of}
use Rattle.policy.specs.Limits.{is_reading_value, test_number, operand_in_range, comparison_in_range, effect_in_range, ending_in_range, in_range, ending_allowed, crowded, repeats, repeated}
use Rattle.pdl.specs.Greedy.{try_next, kept_below, greedy}
use Rattle.pdl.specs.Yield.{literal_holds, rule_holds, take_effect, effects_where, names_reserved, constraint_holds, conflict, resolve, accepted, cancelled}
use Rattle.lexer.specs.Byte.{bytes, bytes_equal, is, hex_value}
use Rattle.lexer.specs.Number.{decimal_from, number_of, negative, decimal_of, pattern_of, hexadecimal_of, constant_of}
use Rattle.lexer.specs.Lines.{prepend, pieces, lines_of, non_empty, tokens_of}
use Rattle.lexer.specs.Token.{named, literal_of, action_of, event_of, reading_of, relation_of, operand_of, both, comparison_of}
use Rattle.syntax.specs.Grammar.{comparisons_from, condition_from, joined, effect_from, rule_after, constraint_after, after, line_from}
use Rattle.syntax.specs.Judge.{line_for, judge_line, is_comment, tokens_answer, line_answer}
use Rattle.rule_text.specs.Text.{with_line, with_any_line, read_line, read_lines, read_text_behind, read_text, read_texts}
use Rattle.epoch_line.specs.Epoch.{at_equals, assignment_of, item_of, items_of, item_in_range, given_by, add_item, judge_epoch, read_epoch}
use Rattle.explanation.specs.Part.{trim_start, add_to_trimmed, trim_end, trim, shown_at, or_later, first_from, first_shown}
use Rattle.explanation.specs.Why.{causes, is_proposing_rule, is_cancelling_constraint, explanation_for, on_action, on_events, on_epoch, explained}
use Rattle.explanation.specs.Examples.{Example, explanations, said_in, said_of}

pub explanations_hold : map said_of explanations ≡ map (λ (x : Example). x.said) explanations
unfolding has insert below reading_value missing_holds values_relate eq_z relation_holds operand_value comparison_holds heads_of comparisons_of ending_of is_reading_value test_number operand_in_range comparison_in_range effect_in_range ending_in_range ending_allowed in_range crowded repeats repeated try_next kept_below greedy literal_holds rule_holds take_effect effects_where names_reserved with_effect effect_number constraint_holds conflict resolve accepted cancelled bytes bytes_equal is decimal_from number_of negative hex_value decimal_of pattern_of hexadecimal_of constant_of prepend pieces lines_of non_empty tokens_of named literal_of action_of event_of reading_of relation_of operand_of both comparison_of comparisons_from condition_from joined effect_from rule_after constraint_after after line_from line_for judge_line is_comment tokens_answer line_answer with_line with_any_line read_line read_lines read_text_behind read_text read_texts at_equals assignment_of item_of items_of item_in_range given_by add_item judge_epoch read_epoch trim_start add_to_trimmed trim_end trim shown_at or_later first_from first_shown causes is_proposing_rule is_cancelling_constraint explanation_for on_action on_events on_epoch explained explanations said_in said_of
explanations_hold = refl
