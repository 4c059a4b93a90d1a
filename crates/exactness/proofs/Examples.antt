-- A worked example (docs/REFERENCE.md, "The image") and the empty policy: the words of their images, and that loading them yields
-- the policy again.
use Rattle.std.proofs.Common.{map, ◌≡◌, refl}
use Rattle.policy.specs.Limits.{valid, in_range, crowded, repeated, repeats, test_number, operand_in_range, comparison_in_range, effect_in_range, ending_in_range, ending_allowed, is_reading_value}
use Rattle.policy.specs.Effect.{effect_number}
use Rattle.policy.specs.Line.{heads_of, comparisons_of, ending_of}
use Rattle.operation.specs.Operation.{operation_from, relation_from}
use Rattle.operation.specs.Said.{says_by, says, constants_of}
use Rattle.operation.specs.Parts.{constant_comparison, reading_comparison, test_operation, test_word, operand_word, constant_words, comparison_word, comparison_words, effect_operation, ending_word}
use Rattle.word.specs.Word.{words_of, bytes_of, between}
use Rattle.operation.specs.Fields.{pack}
use Rattle.layout.specs.Header.{pack_header}
use Rattle.image.specs.Check.{well_sized, counts_fit, sums_to_zero, weights_right}
use Rattle.image.specs.Held.{rules_in, constraints_in, lines_in, policy_in}
use Rattle.layout.specs.Layout.{condition_words, part_words, line_words, lines_words, known_form, check_count, sum, check_word, weighted_from, weighted_word, weighted_right, check_words, header_word, rule_part_words, constraint_part_words, content_words, image_words, image_of}
use Rattle.decode.specs.Decode.{said_in, add_part, decode, is_prefix, in_part, stands_at, keep_if, line_at}
use Rattle.image.specs.Lines.{add_line, after_line, lines_from, part_lines}
use Rattle.image.specs.Load.{body_answer, load_words, load}
use Rattle.exactness.specs.Examples.{worked, boosting, empty_policy, sources, images, image_for, refused, loaded_words, refusal_of}

pub images_hold : map image_for sources ≡ images
unfolding worked boosting empty_policy sources images image_for words_of bytes_of between pack pack_header operation_from says says_by constants_of relation_from constant_comparison reading_comparison test_operation test_word comparison_word operand_word constant_words comparison_words effect_operation ending_word condition_words part_words line_words lines_words known_form check_count sum check_word check_words header_word rule_part_words constraint_part_words content_words image_words image_of said_in add_part decode is_prefix in_part stands_at keep_if line_at add_line after_line lines_from part_lines well_sized counts_fit sums_to_zero weights_right weighted_right weighted_word weighted_from body_answer load_words load rules_in constraints_in lines_in policy_in valid in_range crowded repeated repeats test_number effect_number operand_in_range comparison_in_range effect_in_range ending_in_range ending_allowed is_reading_value heads_of comparisons_of ending_of
images_hold = refl

-- and what is refused
pub refusals_hold : map loaded_words refused ≡ map refusal_of refused
unfolding worked boosting empty_policy refused loaded_words refusal_of words_of bytes_of between pack pack_header operation_from says says_by constants_of relation_from constant_comparison reading_comparison test_operation test_word comparison_word operand_word constant_words comparison_words effect_operation ending_word condition_words part_words line_words lines_words known_form check_count sum check_word check_words header_word rule_part_words constraint_part_words content_words image_words image_of said_in add_part decode is_prefix in_part stands_at keep_if line_at add_line after_line lines_from part_lines well_sized counts_fit sums_to_zero weights_right weighted_right weighted_word weighted_from body_answer load_words load rules_in constraints_in lines_in policy_in valid in_range crowded repeated repeats test_number effect_number operand_in_range comparison_in_range effect_in_range ending_in_range ending_allowed is_reading_value heads_of comparisons_of ending_of
refusals_hold = refl
