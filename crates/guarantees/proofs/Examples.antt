-- Each row of the table of examples is as it says.
use Rattle.std.proofs.Common.{map, ◌≡◌, refl}
use Rattle.policy.specs.Set.{has, insert, below}
use Rattle.policy.specs.Epoch.{reading_value}
use Rattle.policy.specs.Comparison.{eq_z, relation_holds, operand_value, comparison_holds, missing_holds, values_relate}
use Rattle.policy.specs.Line.{heads_of, comparisons_of, ending_of, constant_count}
use Rattle.policy.specs.Effect.{effect_number, with_effect}
use Rattle.policy.specs.Limits.{is_reading_value, test_number, operand_in_range, comparison_in_range, effect_in_range, ending_in_range, ending_allowed, in_range, crowded, repeats, repeated, valid}
use Rattle.pdl.specs.Greedy.{try_next, kept_below, greedy}
use Rattle.pdl.specs.Reduction.{clashes, kept_events, issued, withheld, unavoidable, kept_triggers}
use Rattle.pdl.specs.Yield.{literal_holds, rule_holds, take_effect, effects_where, names_reserved, constraint_holds, conflict, resolve, accepted, cancelled}
use Rattle.lexer.specs.Byte.{bytes, bytes_equal, is, class_of, hex_value}
use Rattle.lexer.specs.Number.{decimal_from, number_of, negative, decimal_of, pattern_of, hexadecimal_of, constant_of}
use Rattle.lexer.specs.Lines.{prepend, pieces, lines_of, non_empty, tokens_of}
use Rattle.lexer.specs.Token.{named, literal_of, action_of, event_of, reading_of, relation_of, operand_of, both, comparison_of}
use Rattle.syntax.specs.Grammar.{comparisons_from, condition_from, joined, effect_from, rule_after, constraint_after, after, line_from}
use Rattle.syntax.specs.Judge.{line_for, judge_line, is_comment, tokens_answer, line_answer}
use Rattle.rule_text.specs.Text.{with_line, with_any_line, read_line, read_lines, read_text_behind, read_text}
use Rattle.epoch_line.specs.Epoch.{at_equals, assignment_of, item_of, items_of, item_in_range, given_by, add_item, judge_epoch, read_epoch}
use Rattle.operation.specs.Operation.{operation_from, relation_from}
use Rattle.word.specs.Word.{words_of, bytes_of, between}
use Rattle.operation.specs.Fields.{pack}
use Rattle.layout.specs.Header.{pack_header}
use Rattle.operation.specs.Parts.{effect_operation, test_operation, test_word, operand_word, constant_words, comparison_word, comparison_words, constant_comparison, reading_comparison, ending_word}
use Rattle.layout.specs.Layout.{condition_words, part_words, line_words, lines_words, known_form, check_count, sum, check_word, weighted_from, weighted_word, check_words, header_word, rule_part_words, constraint_part_words, content_words, image_words, image_of}
use Rattle.codegen.specs.Compile.{output_of, compiled}
use Rattle.guarantees.specs.Machine.{on_named, next_epoch, yield_in, triggered_in, answer, step, set_after, next_set, steps, machine_of}
use Rattle.guarantees.specs.Examples.{examples, computed}

pub examples_hold : map computed examples ≡ examples
unfolding has insert below reading_value missing_holds values_relate eq_z relation_holds operand_value comparison_holds heads_of comparisons_of ending_of constant_count is_reading_value test_number operand_in_range comparison_in_range ending_in_range in_range crowded repeats repeated valid try_next kept_below greedy literal_holds rule_holds take_effect effects_where names_reserved with_effect effect_number effect_in_range ending_allowed event_of effect_from line_for effect_operation on_named next_epoch triggered_in kept_triggers set_after next_set constraint_holds conflict resolve accepted cancelled bytes bytes_equal is class_of decimal_from number_of negative hex_value decimal_of pattern_of hexadecimal_of constant_of prepend pieces lines_of non_empty tokens_of named literal_of action_of reading_of relation_of operand_of both comparison_of comparisons_from condition_from joined rule_after constraint_after after line_from judge_line is_comment tokens_answer line_answer with_line with_any_line read_line read_lines read_text_behind read_text at_equals assignment_of item_of items_of item_in_range given_by add_item judge_epoch read_epoch operation_from relation_from words_of bytes_of between pack pack_header test_operation test_word operand_word constant_words comparison_word comparison_words constant_comparison reading_comparison ending_word condition_words part_words line_words lines_words known_form check_count sum check_word check_words weighted_word weighted_from header_word rule_part_words constraint_part_words content_words image_words image_of output_of compiled answer step steps machine_of yield_in clashes kept_events issued withheld unavoidable examples computed
examples_hold = refl
