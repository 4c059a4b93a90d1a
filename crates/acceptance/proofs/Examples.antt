-- Each row of the tables of examples is as it says.
use Rattle.std.proofs.Common.{map, ◌≡◌, refl}
use Rattle.policy.specs.Limits.{is_reading_value, effect_in_range, ending_allowed, test_number, operand_in_range, comparison_in_range, ending_in_range, in_range, crowded, repeats, repeated}
use Rattle.policy.specs.Effect.{effect_number}
use Rattle.policy.specs.Line.{heads_of, comparisons_of, ending_of}
use Rattle.policy.specs.Set.{has, insert}
use Rattle.lexer.specs.Byte.{bytes, bytes_equal, is, hex_value}
use Rattle.epoch_line.specs.Epoch.{at_equals, assignment_of, item_of, items_of, item_in_range, given_by, add_item, judge_epoch, read_epoch}
use Rattle.acceptance.specs.Examples.{TextExample, PairExample, LineExample, text_rows, pair_rows, epoch_line_rows, text_answer, pair_answer, epoch_answer}
use Rattle.lexer.specs.Token.{named, literal_of, action_of, event_of, reading_of, relation_of, operand_of, both, comparison_of}
use Rattle.syntax.specs.Grammar.{comparisons_from, condition_from, joined, effect_from, rule_after, constraint_after, after, line_from}
use Rattle.lexer.specs.Lines.{prepend, pieces, lines_of, non_empty, tokens_of}
use Rattle.lexer.specs.Number.{decimal_from, number_of, negative, decimal_of, pattern_of, hexadecimal_of, constant_of}
use Rattle.syntax.specs.Judge.{line_for, judge_line, is_comment, tokens_answer, line_answer}
use Rattle.rule_text.specs.Text.{with_line, with_any_line, read_line, read_lines, read_text_behind, read_text, read_texts}

pub texts_read_is : map text_answer text_rows ≡ map (λ (x : TextExample). x.answer) text_rows
unfolding text_rows text_answer bytes bytes_equal is named literal_of action_of event_of reading_of relation_of operand_of both comparison_of comparisons_from condition_from joined effect_from rule_after constraint_after after line_from prepend pieces lines_of non_empty tokens_of decimal_from number_of negative hex_value decimal_of pattern_of hexadecimal_of constant_of line_for judge_line is_comment tokens_answer line_answer with_line with_any_line read_line read_lines read_text_behind read_text is_reading_value test_number effect_number operand_in_range comparison_in_range effect_in_range ending_in_range ending_allowed in_range crowded repeats repeated heads_of comparisons_of ending_of
texts_read_is = refl

pub pairs_read : map pair_answer pair_rows ≡ map (λ (x : PairExample). x.answer) pair_rows
unfolding pair_rows pair_answer bytes bytes_equal is named literal_of action_of event_of reading_of relation_of operand_of both comparison_of comparisons_from condition_from joined effect_from rule_after constraint_after after line_from prepend pieces lines_of non_empty tokens_of decimal_from number_of negative hex_value decimal_of pattern_of hexadecimal_of constant_of line_for judge_line is_comment tokens_answer line_answer with_line with_any_line read_line read_lines read_text_behind read_text read_texts is_reading_value test_number effect_number operand_in_range comparison_in_range effect_in_range ending_in_range ending_allowed in_range crowded repeats repeated heads_of comparisons_of ending_of
pairs_read = refl

pub epochs_read : map epoch_answer epoch_line_rows ≡ map (λ (x : LineExample). x.answer) epoch_line_rows
unfolding epoch_line_rows epoch_answer bytes bytes_equal is named both prepend pieces non_empty tokens_of decimal_from number_of negative hex_value decimal_of pattern_of hexadecimal_of constant_of at_equals assignment_of item_of items_of item_in_range given_by add_item judge_epoch read_epoch is_reading_value repeats has insert
epochs_read = refl
