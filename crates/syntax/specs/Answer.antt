-- What `read_line` answers for every text, by `Judge`.
use Rattle.std.specs.Prelude.{ℕ, List, Option, Result}
use Rattle.std.specs.Result.{result_map_both}
use Rattle.policy.specs.Line.{PolicyLine}
use Rattle.policy.specs.declared.fault.Fault.{Fault}
use Rattle.lexer.specs.Lines.{first_line, behind_line, without_end}
use Rattle.syntax.specs.Judge.{line_answer}

-- the lines behind the first
abbrev pub next_line : List ℕ → List ℕ
next_line text = without_end (behind_line text)

-- a line, none where it is skipped, and the lines behind it
unfoldable pub line_result : List ℕ → Result (Option PolicyLine) Fault → Result (Option PolicyLine × List ℕ) Fault
line_result rest answer = result_map_both (λ l. (l, rest)) (λ fault. fault) answer

-- the first line of a text for a form
unfoldable pub line_read : ℕ → List ℕ → Result (Option PolicyLine × List ℕ) Fault
line_read form text = line_result (next_line text) (line_answer form (first_line text))
