-- Each row of the table of examples is printed as it stands.
use Rattle.std.proofs.Common.{map, ◌≡◌, refl}
use Rattle.policy.specs.Set.{has, insert, members_from}
use Rattle.report.specs.Examples.{examples, printed_line, expected}
use Rattle.lexer.specs.Byte.{bytes}
use Rattle.output.specs.Number.{digits, decimal, hex_digit, hex_digits}
use Rattle.report.specs.Report.{action_name, further_names, action_names, word_line, refusal_line, texts_refusal_line, image_refusal_line, not_word_line, words_field, accept_line, refused_line, not_proposed_line, shown_line, not_explained_line}

pub lines_hold : map printed_line examples ≡ map expected examples
unfolding examples printed_line expected bytes digits decimal hex_digit hex_digits members_from action_name further_names action_names word_line refusal_line texts_refusal_line image_refusal_line not_word_line words_field accept_line refused_line not_proposed_line shown_line not_explained_line has insert
lines_hold = refl
