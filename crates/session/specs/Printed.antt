-- What the engine prints for all of its input (docs/REFERENCE.md, "The programs").
use Rattle.policy.specs.Policy.{Policy}
use Rattle.policy.specs.declared.fault.Refusal.{Refusal}
use Rattle.std.specs.Prelude.{ℕ, Bool, true, false, List, [], ◌∷◌, ◌++◌, Result, Ok, Err, Option, Some, None, if◌then◌else◌}
use Rattle.std.specs.Option.{option_map_or}
use Rattle.policy.specs.declared.mode.Mode.{Mode}
use Rattle.lexer.specs.Byte.{is}
use Rattle.lexer.specs.Lines.{lines_of}
use Rattle.rule_text.specs.Text.{read_text}
use Rattle.layout.specs.Layout.{image_of}
use Rattle.codegen.specs.Compile.{newest_form}
use Rattle.monitor.specs.Decision.{advanced}
use Rattle.monitor.specs.declared.state.Decided.{Decided}
use Rattle.monitor.specs.declared.decision.Actions.{Actions}
use Rattle.stream.specs.Lines.{due_by_lines}
use Rattle.policy.specs.Set.{EventSet, no_events, members_of}
use Rattle.report.specs.Report.{refusal_line, accept_line, refused_line, next_number}

-- ---- a line `run` picks the first mode, and a line `run events` in its place the second

unfoldable pub mode_of : List ℕ → Option Mode
mode_of line = if is "run" line then Some Mode.Actions else (if is "run events" line then Some Mode.Events else None)

-- ---- the first line of exactly the three bytes `run` or the ten bytes `run events` ends the text; without one all input is text

pub data Session : Type 0 where
  text_only : Session
  -- the lines of the text, the mode that the line behind it picks, and the epoch lines
  with_epochs : List (List ℕ) → Mode → List (List ℕ) → Session

unfoldable pub to_text : List ℕ → Session → Session
to_text line text_only = text_only
to_text line (with_epochs text mode epochs) = with_epochs (line ∷ text) mode epochs

unfoldable pub split_at_run : List (List ℕ) → Session
split_at_run [] = text_only
split_at_run (line ∷ lines) = option_map_or (λ mode. with_epochs [] mode lines) (mode_of line) (to_text line (split_at_run lines))

-- lines with their line ends
unfoldable pub ended : List (List ℕ) → List ℕ
ended [] = []
ended (line ∷ lines) = line ++ 10 ∷ ended lines

unfoldable pub text_part : List ℕ → Session → List ℕ
text_part input text_only = input
text_part input (with_epochs text mode epochs) = ended text

-- ---- one line for each epoch

unfoldable pub decision_line : ℕ → Result Actions Refusal → List ℕ
decision_line n (Err r) = refused_line n r.fault
decision_line n (Ok actions) = accept_line n (members_of actions.accepted) (members_of actions.cancelled) actions.visited

-- after n epochs, where these events are pending
unfoldable pub epoch_lines : Mode → List ℕ → EventSet → ℕ → List (List ℕ) → List ℕ
epoch_lines mode image pending n [] = []
epoch_lines mode image pending n (line ∷ lines) =
    let next : Decided = advanced mode image pending line in
    decision_line (next_number n) next.answer ++ epoch_lines mode image next.pending (next_number n) lines

-- ---- a refused text prints its refusal line and nothing else

unfoldable pub answers_to : Result Policy Refusal → Session → List ℕ
answers_to (Err r) s = refusal_line r
answers_to (Ok policy) text_only = []
answers_to (Ok policy) (with_epochs text mode epochs) = epoch_lines mode (image_of newest_form policy) no_events 0 epochs

-- the bytes of the text are told apart from its lines, of which the last may lack its end
unfoldable pub printed_for : List ℕ → Session → List ℕ
printed_for text s = answers_to (read_text newest_form text) s

-- the whole: all bytes of the input to all bytes of the output
unfoldable pub printed : List ℕ → List ℕ
printed input = let s : Session = split_at_run (lines_of input) in printed_for (text_part input s) s

-- ---- before the input has ended: nothing, and once a line that picks a mode has ended, what is printed for the lines that have

abbrev pub has_epochs : Session → Bool
has_epochs text_only = false
has_epochs (with_epochs text mode epochs) = true

abbrev pub runs : List ℕ → Bool
runs lines = has_epochs (split_at_run (lines_of lines))

unfoldable pub due : List ℕ → List ℕ
due input = due_by_lines runs printed [] input
