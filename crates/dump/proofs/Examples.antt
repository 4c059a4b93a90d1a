-- Each row of the table of examples is as it says.
use Rattle.std.proofs.Common.{◌≡◌, map, refl}
use Rattle.policy.specs.Effect.{effect_number}
use Rattle.policy.specs.Limits.{is_reading_value, test_number, operand_in_range, comparison_in_range, effect_in_range, ending_in_range, ending_allowed, in_range, crowded, repeats, repeated, valid}
use Rattle.policy.specs.Line.{heads_of, comparisons_of, ending_of, constant_count}
use Rattle.lexer.specs.Byte.{bytes, hex_value}
use Rattle.lexer.specs.Lines.{prepend, pieces, lines_of}
use Rattle.output.specs.Number.{digits, decimal}
use Rattle.operation.specs.Operation.{operation_from, relation_from}
use Rattle.operation.specs.Said.{says_by, says, constants_of}
use Rattle.word.specs.Word.{words_of, bytes_of, between}
use Rattle.operation.specs.Fields.{pack}
use Rattle.layout.specs.Header.{pack_header}
use Rattle.operation.specs.Parts.{effect_operation, test_operation, test_word, operand_word, constant_words, comparison_word, comparison_words, constant_comparison, reading_comparison, ending_word}
use Rattle.layout.specs.Layout.{condition_words, part_words, line_words, lines_words, known_form, check_count, sum, weighted_from, weighted_word, weighted_right}
use Rattle.decode.specs.Decode.{said_in, add_part, decode, is_prefix, in_part, stands_at, keep_if, line_at}
use Rattle.image.specs.Check.{well_sized, counts_fit, sums_to_zero, weights_right}
use Rattle.image.specs.Held.{rules_in, constraints_in, lines_in, policy_in}
use Rattle.image.specs.Lines.{add_line, after_line, lines_from, part_lines}
use Rattle.image.specs.Load.{body_answer, load_words, load}
use Rattle.printer.specs.Printed.{constant_token, event_token, effect_tokens, literal_token, action_token, reading_token, relation_token, operand_token, comparison_tokens, joined_by, head_tokens, condition_tokens, line_tokens, line_bytes, lines_text, text_of}
use Rattle.report.specs.Report.{image_refusal_line, not_word_line}
use Rattle.dump.specs.Dump.{word_in, behind_words, read_word_line, read_dump, loaded_answer, image_answer, dump_answer, restored}
use Rattle.dump.specs.Examples.{dumps, dump_restored, expected}

pub dumps_hold : map dump_restored dumps ≡ map expected dumps
unfolding effect_number effect_in_range ending_allowed effect_operation event_token effect_tokens is_reading_value test_number operand_in_range comparison_in_range ending_in_range in_range crowded repeats repeated valid heads_of comparisons_of ending_of constant_count bytes hex_value prepend pieces lines_of digits decimal operation_from says says_by constants_of relation_from words_of bytes_of between pack pack_header test_operation test_word operand_word constant_words comparison_word comparison_words constant_comparison reading_comparison ending_word condition_words part_words line_words lines_words known_form check_count sum said_in add_part decode is_prefix in_part stands_at keep_if line_at well_sized counts_fit sums_to_zero weights_right weighted_right weighted_word weighted_from rules_in constraints_in lines_in policy_in add_line after_line lines_from part_lines body_answer load_words load constant_token literal_token action_token reading_token relation_token operand_token comparison_tokens joined_by head_tokens condition_tokens line_tokens line_bytes lines_text text_of image_refusal_line not_word_line word_in behind_words read_word_line read_dump loaded_answer image_answer dump_answer restored dumps dump_restored expected
dumps_hold = refl
