-- What the engine's program would print if the reference machine answered: but for the number of words, no image is spoken of.
use Rattle.std.specs.Prelude.{ℕ, List, [], ◌∷◌, ◌++◌, if◌then◌else◌, Result, Ok, Err}
use Rattle.policy.specs.Policy.{Policy}
use Rattle.policy.specs.declared.fault.Refusal.{Refusal}
use Rattle.policy.specs.declared.mode.Mode.{Mode}
use Rattle.lexer.specs.Byte.{bytes}
use Rattle.lexer.specs.Lines.{lines_of}
use Rattle.rule_text.specs.Text.{read_text}
use Rattle.output.specs.Number.{decimal}
use Rattle.layout.specs.Layout.{image_of}
use Rattle.codegen.specs.Compile.{newest_form}
use Rattle.monitor.specs.Decision.{decision_in, visited_in}
use Rattle.policy.specs.Set.{EventSet, no_events, members_of}
use Rattle.report.specs.Report.{refusal_line, words_field, accept_line, next_number}
use Rattle.session.specs.Printed.{Session, text_only, with_epochs, split_at_run, text_part}
use Rattle.pdl.specs.Answer.{Answer}
use Rattle.guarantees.specs.Machine.{step, next_set}

-- of a refused epoch the line shows its fault's number and no sets
unfoldable pub answer_line : ℕ → Answer → ℕ → List ℕ
answer_line n a words =
    if a.is_refused then decimal n ++ bytes " refused " ++ decimal a.number ++ words_field words else accept_line n (members_of a.accepted) (members_of a.cancelled) words

-- the machine counts no words: what is printed as their number is told for each mode, policy, set that the machine keeps, and line
module _ (words : Mode → Policy → EventSet → List ℕ → ℕ) where
  -- after n epochs
  unfoldable pub machine_answer_lines : Mode → Policy → EventSet → ℕ → List (List ℕ) → List ℕ
  machine_answer_lines mode p set n [] = []
  machine_answer_lines mode p set n (line ∷ lines) =
      answer_line (next_number n) (step mode p set line) (words mode p set line) ++ machine_answer_lines mode p (next_set mode p set line) (next_number n) lines

  unfoldable pub machine_lines : Result Policy Refusal → Session → List ℕ
  machine_lines (Err r) s = refusal_line r
  machine_lines (Ok policy) text_only = []
  machine_lines (Ok policy) (with_epochs text mode epochs) = machine_answer_lines mode policy no_events 0 epochs

  -- all bytes of the input to all bytes of the output
  unfoldable pub machine_prints : List ℕ → List ℕ
  machine_prints input = let s : Session = split_at_run (lines_of input) in machine_lines (read_text newest_form (text_part input s)) s

-- the words that the decision on a policy's image fetches
unfoldable pub fetched : Mode → Policy → EventSet → List ℕ → ℕ
fetched mode p pending line = visited_in (decision_in mode (image_of newest_form p) pending line)
