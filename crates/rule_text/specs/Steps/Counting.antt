-- Counting the lines of a text instead of collecting them.
use Rattle.std.specs.Prelude.{ℕ, if◌then◌else◌, nat_lt, length, List, [], ◌∷◌, Result, Ok, Err}
use Rattle.policy.specs.Fault.{refusal, located}
use Rattle.policy.specs.Result.{result_and_then}
use Rattle.policy.specs.declared.fault.Fault.{Fault}
use Rattle.policy.specs.declared.fault.Refusal.{Refusal}
use Rattle.policy.specs.declared.line.PerPart.{PerPart}
use Rattle.syntax.specs.Lines.{TextLine, lines_in}
use Rattle.rule_text.specs.Text.{text_limit}
use Rattle.rule_text.specs.Steps.Tally.{tallied_by}
use Rattle.rule_text.specs.declared.LineCounts.{LineCounts}

abbrev pub no_lines : LineCounts
no_lines = record { lines = 0; heads = 0; comparisons = 0; constants = 0 }

-- before the first line
abbrev pub no_counts : PerPart LineCounts
no_counts = record { rules = no_lines; constraints = no_lines }

-- the counts with the lines of a text
unfoldable pub count_lines : PerPart LineCounts → List (Result TextLine Refusal) → Result (PerPart LineCounts) Refusal
count_lines c [] = Ok c
count_lines c (Ok l ∷ ls) = result_and_then (λ (d : PerPart LineCounts). count_lines d ls) (located l.number (tallied_by c l.line))
count_lines c (Err r ∷ ls) = Err r

-- the lines of a text behind those before it
unfoldable pub count_behind : (form : ℕ) → PerPart LineCounts → List ℕ → Result (PerPart LineCounts) Refusal
count_behind form c text = if nat_lt text_limit (length text) then Err (refusal Fault.TooLong 0) else count_lines c (lines_in form text)
