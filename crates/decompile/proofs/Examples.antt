-- Each row of the table of examples is as it says.
use Rattle.std.proofs.Common.{map, ◌≡◌, refl}
use Rattle.decode.specs.Decode.{said_in, add_part, decode, is_prefix, in_part, stands_at, keep_if, line_at}
use Rattle.decompile.specs.Decompile.{output_of, decompiled}
use Rattle.decompile.specs.Examples.{worked_with, boosting, image_in, image_from, examples, computed}
use Rattle.image.specs.Check.{well_sized, counts_fit, sums_to_zero, weights_right}
use Rattle.image.specs.Held.{rules_in, constraints_in, lines_in, policy_in}
use Rattle.image.specs.Lines.{add_line, after_line, lines_from, part_lines}
use Rattle.image.specs.Load.{body_answer, load_words, load}
use Rattle.layout.specs.Header.{pack_header}
use Rattle.layout.specs.Layout.{condition_words, part_words, line_words, lines_words, known_form, check_count, sum, check_word, weighted_from, weighted_word, weighted_right, check_words, header_word, rule_part_words, constraint_part_words, content_words, image_words, image_of}
use Rattle.lexer.specs.Byte.{bytes, bytes_equal, is, hex_value}
use Rattle.lexer.specs.Lines.{prepend, pieces, lines_of, non_empty, tokens_of}
use Rattle.lexer.specs.Number.{decimal_from, number_of, negative, decimal_of, pattern_of, hexadecimal_of, constant_of}
use Rattle.lexer.specs.Token.{named, literal_of, action_of, event_of, reading_of, relation_of, operand_of, both, comparison_of}
use Rattle.operation.specs.Fields.{pack}
use Rattle.operation.specs.Operation.{operation_from, relation_from}
use Rattle.operation.specs.Said.{says_by, says, constants_of}
use Rattle.operation.specs.Parts.{constant_comparison, reading_comparison, test_operation, test_word, operand_word, constant_words, comparison_word, comparison_words, effect_operation, ending_word}
use Rattle.output.specs.Number.{digits, decimal}
use Rattle.policy.specs.Effect.{effect_number}
use Rattle.policy.specs.Limits.{is_reading_value, test_number, operand_in_range, comparison_in_range, effect_in_range, ending_in_range, ending_allowed, in_range, crowded, repeats, repeated, valid}
use Rattle.policy.specs.Line.{heads_of, comparisons_of, ending_of}
use Rattle.printer.specs.Printed.{constant_token, event_token, literal_token, action_token, effect_tokens, reading_token, relation_token, operand_token, comparison_tokens, joined_by, head_tokens, condition_tokens, line_tokens, line_bytes, lines_text, text_of}
use Rattle.rule_text.specs.Text.{with_line, with_any_line, read_line, read_lines, read_text_behind, read_text}
use Rattle.syntax.specs.Grammar.{comparisons_from, condition_from, joined, effect_from, rule_after, constraint_after, after, line_from}
use Rattle.syntax.specs.Judge.{line_for, judge_line, is_comment, tokens_answer, line_answer}
use Rattle.word.specs.Word.{words_of, bytes_of, between}

pub examples_hold : map computed examples ≡ examples
unfolding said_in add_part decode is_prefix in_part stands_at keep_if line_at output_of decompiled worked_with boosting image_in image_from examples computed well_sized counts_fit sums_to_zero weights_right weighted_right weighted_word weighted_from rules_in constraints_in lines_in policy_in add_line after_line lines_from part_lines body_answer load_words load pack_header condition_words part_words line_words lines_words known_form check_count sum check_word check_words header_word rule_part_words constraint_part_words content_words image_words image_of bytes bytes_equal is prepend pieces lines_of non_empty tokens_of decimal_from number_of negative hex_value decimal_of pattern_of hexadecimal_of constant_of named literal_of action_of event_of reading_of relation_of operand_of both comparison_of pack operation_from says says_by constants_of relation_from constant_comparison reading_comparison test_operation test_word operand_word constant_words comparison_word comparison_words effect_operation ending_word digits decimal is_reading_value test_number effect_number operand_in_range comparison_in_range effect_in_range ending_in_range ending_allowed in_range crowded repeats repeated valid heads_of comparisons_of ending_of constant_token event_token literal_token action_token effect_tokens reading_token relation_token operand_token comparison_tokens joined_by head_tokens condition_tokens line_tokens line_bytes lines_text text_of with_line with_any_line read_line read_lines read_text_behind read_text comparisons_from condition_from joined effect_from rule_after constraint_after after line_from line_for judge_line is_comment tokens_answer line_answer words_of bytes_of between
examples_hold = refl
