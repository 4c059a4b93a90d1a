-- Each row of the tables of examples is as it says.
use Rattle.std.proofs.Common.{◌≡◌, map, refl}
use Rattle.policy.specs.Set.{has, insert, below, members_from}
use Rattle.policy.specs.Epoch.{reading_value}
use Rattle.policy.specs.Comparison.{eq_z, relation_holds, operand_value, comparison_holds, missing_holds, values_relate}
use Rattle.policy.specs.Line.{heads_of, comparisons_of, ending_of, constant_count}
use Rattle.policy.specs.Effect.{effect_number, with_effect}
use Rattle.policy.specs.Limits.{is_reading_value, test_number, operand_in_range, comparison_in_range, effect_in_range, ending_in_range, ending_allowed, in_range, crowded, repeats, repeated, valid}
use Rattle.pdl.specs.Greedy.{try_next, kept_below, greedy, cost_below, trials_cost}
use Rattle.pdl.specs.Yield.{literal_holds, rule_holds, take_effect, effects_where, constraint_holds, conflict, resolve, accepted, cancelled}
use Rattle.lexer.specs.Byte.{bytes, bytes_equal, is, class_of, hex_value}
use Rattle.lexer.specs.Number.{decimal_from, number_of, negative, decimal_of, pattern_of, hexadecimal_of, constant_of}
use Rattle.lexer.specs.Lines.{prepend, pieces, lines_of, non_empty, tokens_of}
use Rattle.lexer.specs.Token.{named, literal_of, action_of, event_of, reading_of, relation_of, operand_of, both, comparison_of}
use Rattle.syntax.specs.Grammar.{comparisons_from, condition_from, joined, effect_from, rule_after, constraint_after, after, line_from}
use Rattle.syntax.specs.Judge.{line_for, judge_line, is_comment, tokens_answer, line_answer}
use Rattle.rule_text.specs.Text.{with_line, with_any_line, read_line, read_lines, read_text_behind, read_text, read_texts}
use Rattle.epoch_line.specs.Epoch.{at_equals, assignment_of, item_of, items_of, item_in_range, given_by, add_item, judge_epoch, read_epoch}
use Rattle.operation.specs.Operation.{operation_from, relation_from}
use Rattle.operation.specs.Said.{says_by, says, constants_of}
use Rattle.word.specs.Word.{words_of, bytes_of, between}
use Rattle.operation.specs.Fields.{pack}
use Rattle.layout.specs.Header.{pack_header}
use Rattle.operation.specs.Parts.{effect_operation, test_operation, test_word, operand_word, constant_words, comparison_word, comparison_words, constant_comparison, reading_comparison, ending_word}
use Rattle.layout.specs.Layout.{condition_words, part_words, line_words, lines_words, known_form, check_count, sum, check_word, weighted_from, weighted_word, weighted_right, check_words, header_word, rule_part_words, constraint_part_words, content_words, image_words, image_of}
use Rattle.image.specs.Check.{well_sized, counts_fit, sums_to_zero, weights_right}
use Rattle.decode.specs.Decode.{said_in, add_part, decode, is_prefix, in_part, stands_at, keep_if, line_at, line_length}
use Rattle.image.specs.Lines.{add_line, after_line, lines_from, part_lines}
use Rattle.image.specs.Load.{body_answer, load_words, load}
use Rattle.run.specs.Run.{ran, rule_test, constraint_test, taking, run_rules, reserved_by, ends_constraint, run_constraints, fetches, up_to, rule_fetches, trial_fetches}
use Rattle.monitor.specs.Decision.{kept_by, tried_words, yielded_by, kept_events_by, tried_event_words, reduced_by, reduction_by, decided_by, reserved_in, on_image, decision_in, pending_after, advanced}
use Rattle.codegen.specs.Compile.{output_of, compiled}
use Rattle.output.specs.Number.{digits, decimal, hex_digit, hex_digits, hex_digit_value}
use Rattle.report.specs.Report.{action_name, further_names, action_names, word_line, refusal_line, texts_refusal_line, words_field, accept_line, refused_line}
use Rattle.session.specs.Printed.{mode_of, to_text, split_at_run, ended, text_part, decision_line, epoch_lines, answers_to, printed_for, printed, due}
use Rattle.session.specs.Listed.{word_lines, listing_of, listed, listed_texts}
use Rattle.session.specs.Examples.{TextsExample, sessions, dues, listings, texts_listings, expected, session_printed, session_due, text_listed, texts_listed}

pub sessions_hold : map session_printed sessions ≡ map expected sessions
unfolding has insert below reading_value missing_holds values_relate eq_z relation_holds operand_value comparison_holds heads_of comparisons_of ending_of constant_count is_reading_value test_number operand_in_range comparison_in_range ending_in_range in_range crowded repeats repeated valid try_next kept_below greedy cost_below trials_cost literal_holds rule_holds take_effect effects_where with_effect effect_number constraint_holds conflict resolve accepted cancelled bytes bytes_equal is class_of decimal_from number_of negative hex_value decimal_of pattern_of hexadecimal_of constant_of prepend pieces lines_of non_empty tokens_of named literal_of action_of reading_of relation_of operand_of both comparison_of comparisons_from condition_from joined rule_after constraint_after after line_from judge_line is_comment tokens_answer line_answer with_line with_any_line read_line read_lines read_text_behind read_text at_equals assignment_of item_of items_of item_in_range given_by add_item judge_epoch read_epoch operation_from relation_from words_of bytes_of between pack pack_header test_operation test_word operand_word constant_words comparison_word comparison_words constant_comparison reading_comparison ending_word condition_words part_words line_words lines_words known_form check_count sum check_word check_words header_word rule_part_words constraint_part_words content_words image_words image_of well_sized counts_fit sums_to_zero weights_right weighted_right weighted_word weighted_from decode is_prefix in_part stands_at keep_if line_at line_length add_line after_line lines_from part_lines body_answer load_words load ran rule_test constraint_test run_rules run_constraints fetches up_to rule_fetches trial_fetches kept_by tried_words yielded_by kept_events_by tried_event_words reduced_by reduction_by decided_by on_image decision_in output_of compiled digits decimal hex_digit hex_digits hex_digit_value members_from action_name further_names action_names word_line refusal_line words_field accept_line refused_line mode_of to_text split_at_run ended text_part decision_line epoch_lines answers_to printed_for printed word_lines listing_of listed sessions listings expected session_printed text_listed says says_by constants_of said_in add_part taking reserved_by reserved_in advanced pending_after line_for effect_from ending_allowed effect_in_range effect_operation event_of ends_constraint
sessions_hold = refl

pub dues_hold : map session_due dues ≡ map expected dues
unfolding has insert below reading_value missing_holds values_relate eq_z relation_holds operand_value comparison_holds heads_of comparisons_of ending_of constant_count is_reading_value test_number operand_in_range comparison_in_range ending_in_range in_range crowded repeats repeated valid try_next kept_below greedy cost_below trials_cost literal_holds rule_holds take_effect effects_where with_effect effect_number constraint_holds conflict resolve accepted cancelled bytes bytes_equal is class_of decimal_from number_of negative hex_value decimal_of pattern_of hexadecimal_of constant_of prepend pieces lines_of non_empty tokens_of named literal_of action_of reading_of relation_of operand_of both comparison_of comparisons_from condition_from joined rule_after constraint_after after line_from judge_line is_comment tokens_answer line_answer with_line with_any_line read_line read_lines read_text_behind read_text at_equals assignment_of item_of items_of item_in_range given_by add_item judge_epoch read_epoch operation_from relation_from words_of bytes_of between pack pack_header test_operation test_word operand_word constant_words comparison_word comparison_words constant_comparison reading_comparison ending_word condition_words part_words line_words lines_words known_form check_count sum check_word check_words header_word rule_part_words constraint_part_words content_words image_words image_of well_sized counts_fit sums_to_zero weights_right weighted_right weighted_word weighted_from decode is_prefix in_part stands_at keep_if line_at line_length add_line after_line lines_from part_lines body_answer load_words load ran rule_test constraint_test run_rules run_constraints fetches up_to rule_fetches trial_fetches kept_by tried_words yielded_by kept_events_by tried_event_words reduced_by reduction_by decided_by on_image decision_in output_of compiled digits decimal hex_digit hex_digits hex_digit_value members_from action_name further_names action_names word_line refusal_line words_field accept_line refused_line mode_of to_text split_at_run ended text_part decision_line epoch_lines answers_to printed_for printed word_lines listing_of listed sessions listings expected session_printed text_listed due dues session_due says says_by constants_of said_in add_part taking reserved_by reserved_in advanced pending_after line_for effect_from ending_allowed effect_in_range effect_operation event_of ends_constraint
dues_hold = refl

pub listings_hold : map text_listed listings ≡ map expected listings
unfolding has insert below reading_value missing_holds values_relate eq_z relation_holds operand_value comparison_holds heads_of comparisons_of ending_of constant_count is_reading_value test_number operand_in_range comparison_in_range ending_in_range in_range crowded repeats repeated valid try_next kept_below greedy cost_below trials_cost literal_holds rule_holds take_effect effects_where with_effect effect_number constraint_holds conflict resolve accepted cancelled bytes bytes_equal is class_of decimal_from number_of negative hex_value decimal_of pattern_of hexadecimal_of constant_of prepend pieces lines_of non_empty tokens_of named literal_of action_of reading_of relation_of operand_of both comparison_of comparisons_from condition_from joined rule_after constraint_after after line_from judge_line is_comment tokens_answer line_answer with_line with_any_line read_line read_lines read_text_behind read_text at_equals assignment_of item_of items_of item_in_range given_by add_item judge_epoch read_epoch operation_from relation_from words_of bytes_of between pack pack_header test_operation test_word operand_word constant_words comparison_word comparison_words constant_comparison reading_comparison ending_word condition_words part_words line_words lines_words known_form check_count sum check_word check_words header_word rule_part_words constraint_part_words content_words image_words image_of well_sized counts_fit sums_to_zero weights_right weighted_right weighted_word weighted_from decode is_prefix in_part stands_at keep_if line_at line_length add_line after_line lines_from part_lines body_answer load_words load ran rule_test constraint_test run_rules run_constraints fetches up_to rule_fetches trial_fetches output_of compiled digits decimal hex_digit hex_digits hex_digit_value members_from action_name further_names action_names word_line refusal_line words_field accept_line refused_line word_lines listing_of listed sessions listings expected session_printed text_listed says says_by constants_of said_in add_part taking reserved_by reserved_in advanced pending_after line_for effect_from ending_allowed effect_in_range effect_operation event_of ends_constraint
listings_hold = refl

pub texts_listings_hold : map texts_listed texts_listings ≡ map (λ (x : TextsExample). bytes x.output) texts_listings
unfolding line_for effect_from ending_allowed effect_in_range effect_number effect_operation event_of heads_of comparisons_of ending_of constant_count is_reading_value test_number operand_in_range comparison_in_range ending_in_range in_range crowded repeats repeated bytes bytes_equal is class_of decimal_from number_of negative hex_value decimal_of pattern_of hexadecimal_of constant_of prepend pieces lines_of non_empty tokens_of named literal_of action_of reading_of relation_of operand_of both comparison_of comparisons_from condition_from joined rule_after constraint_after after line_from judge_line is_comment tokens_answer line_answer with_line with_any_line read_line read_lines read_text_behind read_text words_of bytes_of between pack pack_header test_operation test_word operand_word constant_words comparison_word comparison_words ending_word condition_words part_words line_words lines_words known_form check_count sum check_word check_words weighted_word weighted_from header_word rule_part_words constraint_part_words content_words image_words image_of digits decimal hex_digit hex_digits hex_digit_value word_line word_lines listing_of read_texts texts_refusal_line listed_texts texts_listings texts_listed
texts_listings_hold = refl
