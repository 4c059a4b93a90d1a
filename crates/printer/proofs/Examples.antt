-- Each row of the table of texts is printed as it stands.
use Rattle.std.proofs.Common.{map, ◌≡◌, refl, Some}
use Prim.Native.String.{String}
use Rattle.policy.specs.Effect.{effect_number}
use Rattle.policy.specs.Limits.{is_reading_value, test_number, operand_in_range, comparison_in_range, effect_in_range, ending_in_range, ending_allowed, in_range, crowded, repeats, repeated}
use Rattle.policy.specs.Line.{heads_of, comparisons_of, ending_of}
use Rattle.printer.specs.Examples.{printed_texts, reprinted}
use Rattle.output.specs.Number.{digits, decimal}
use Rattle.printer.specs.Printed.{constant_token, event_token, literal_token, action_token, effect_tokens, reading_token, relation_token, operand_token, comparison_tokens, joined_by, head_tokens, condition_tokens, line_tokens, line_bytes, lines_text, text_of}
use Rattle.lexer.specs.Byte.{bytes, bytes_equal, is, hex_value}
use Rattle.lexer.specs.Token.{named, literal_of, action_of, event_of, reading_of, relation_of, operand_of, both, comparison_of}
use Rattle.syntax.specs.Grammar.{comparisons_from, condition_from, joined, effect_from, rule_after, constraint_after, after, line_from}
use Rattle.lexer.specs.Lines.{prepend, pieces, lines_of, non_empty, tokens_of}
use Rattle.lexer.specs.Number.{decimal_from, number_of, negative, decimal_of, pattern_of, hexadecimal_of, constant_of}
use Rattle.syntax.specs.Judge.{line_for, judge_line, is_comment, tokens_answer, line_answer}
use Rattle.rule_text.specs.Text.{with_line, with_any_line, read_line, read_lines, read_text_behind, read_text}

pub texts_printed : map reprinted printed_texts ≡ map (λ (s : String). Some (bytes s)) printed_texts
unfolding printed_texts reprinted digits decimal constant_token event_token literal_token action_token effect_tokens reading_token relation_token operand_token comparison_tokens joined_by head_tokens condition_tokens line_tokens line_bytes lines_text text_of bytes bytes_equal is named literal_of action_of event_of reading_of relation_of operand_of both comparison_of comparisons_from condition_from joined effect_from rule_after constraint_after after line_from prepend pieces lines_of non_empty tokens_of decimal_from number_of negative hex_value decimal_of pattern_of hexadecimal_of constant_of line_for judge_line is_comment tokens_answer line_answer with_line with_any_line read_line read_lines read_text_behind read_text is_reading_value test_number effect_number operand_in_range comparison_in_range effect_in_range ending_in_range ending_allowed in_range crowded repeats repeated heads_of comparisons_of ending_of
texts_printed = refl
