-- Each row of the table of examples is as it says.
use Rattle.std.proofs.Common.{map, ◌≡◌, refl}
use Rattle.policy.specs.Effect.{effect_number, with_effect}
use Rattle.policy.specs.Set.{has, insert, below}
use Rattle.policy.specs.Epoch.{reading_value}
use Rattle.policy.specs.Comparison.{eq_z, relation_holds, operand_value, comparison_holds, missing_holds, values_relate}
use Rattle.policy.specs.Line.{heads_of, comparisons_of, ending_of}
use Rattle.policy.specs.Limits.{is_reading_value, test_number, operand_in_range, comparison_in_range, effect_in_range, ending_in_range, ending_allowed, in_range, crowded, repeats, repeated}
use Rattle.pdl.specs.Greedy.{try_next, kept_below, greedy}
use Rattle.pdl.specs.Yield.{literal_holds, rule_holds, take_effect, effects_where, names_reserved, constraint_holds, conflict, resolve, accepted, cancelled}
use Rattle.lexer.specs.Byte.{bytes, bytes_equal, is, hex_value}
use Rattle.lexer.specs.Number.{decimal_from, number_of, negative, decimal_of, pattern_of, hexadecimal_of, constant_of}
use Rattle.lexer.specs.Lines.{prepend, pieces, lines_of, non_empty, tokens_of}
use Rattle.lexer.specs.Token.{named, literal_of, action_of, event_of, reading_of, relation_of, operand_of, both, comparison_of}
use Rattle.syntax.specs.Grammar.{comparisons_from, condition_from, joined, effect_from, rule_after, constraint_after, after, line_from}
use Rattle.syntax.specs.Judge.{line_for, judge_line, is_comment, tokens_answer, line_answer}
use Rattle.rule_text.specs.Text.{with_line, with_any_line, read_line, read_lines, read_text_behind, read_text, read_texts}
use Rattle.epoch_line.specs.Epoch.{at_equals, assignment_of, item_of, items_of, item_in_range, given_by, add_item, judge_epoch, read_epoch}
use Rattle.output.specs.Number.{digits, decimal}
use Rattle.explanation.specs.Part.{trim_start, add_to_trimmed, trim_end, trim, shown_at, or_later, first_from, first_shown}
use Rattle.explanation.specs.Why.{causes, is_proposing_rule, is_cancelling_constraint, explanation_for, on_action, on_events, on_epoch, explained}
use Rattle.report.specs.Report.{texts_refusal_line, not_proposed_line, shown_line, not_explained_line}
use Rattle.questions.specs.Answered.{word_of, epoch_part, names_in, first_asked, with_event, behind_comma, asked_by, no_action, quoted_line, explained_line, answer_for, question_answer, answer_lines, answers_on, answers_printed}
use Rattle.questions.specs.Examples.{examples, answered_to, expected}

pub answers_hold : map answered_to examples ≡ map expected examples
unfolding has insert below reading_value missing_holds values_relate eq_z relation_holds operand_value comparison_holds heads_of comparisons_of ending_of is_reading_value test_number operand_in_range comparison_in_range ending_in_range in_range crowded repeats repeated try_next kept_below greedy literal_holds rule_holds take_effect effects_where names_reserved with_effect effect_number effect_in_range ending_allowed event_of effect_from line_for causes on_events names_in first_asked with_event behind_comma asked_by constraint_holds conflict resolve accepted cancelled bytes bytes_equal is decimal_from number_of negative hex_value decimal_of pattern_of hexadecimal_of constant_of prepend pieces lines_of non_empty tokens_of named literal_of action_of reading_of relation_of operand_of both comparison_of comparisons_from condition_from joined rule_after constraint_after after line_from judge_line is_comment tokens_answer line_answer with_line with_any_line read_line read_lines read_text_behind read_text read_texts at_equals assignment_of item_of items_of item_in_range given_by add_item judge_epoch read_epoch trim_start add_to_trimmed trim_end trim shown_at or_later first_from first_shown is_proposing_rule is_cancelling_constraint explanation_for on_action on_epoch explained digits decimal texts_refusal_line not_proposed_line shown_line not_explained_line word_of epoch_part no_action quoted_line explained_line answer_for question_answer answer_lines answers_on answers_printed examples answered_to expected
answers_hold = refl
