-- Which lines are sought, and judging one by running its words.
use Rattle.std.specs.Prelude.{ℕ, ◌-◌, ◌≤◌, ◌≡◌, Bool, true, false, if◌then◌else◌, List, [], ◌∷◌, length, Option, Some, None, Result, Ok, Err}
use Rattle.policy.specs.Line.{PolicyLine, ending_of, line_part}
use Rattle.policy.specs.Set.{all_events, has_action}
use Rattle.policy.specs.declared.epoch.Epoch.{Epoch}
use Rattle.policy.specs.declared.fault.Refusal.{Refusal}
use Rattle.policy.specs.declared.line.Ending.{Ending}
use Rattle.word.specs.Word.{word_limit, Below}
use Rattle.layout.specs.Layout.{line_words}
use Rattle.operation.specs.Whole.{whole_lines}
use Rattle.syntax.specs.Lines.{TextLine}
use Rattle.run.specs.Run.{run_rules, run_constraints}
use Rattle.explanation.specs.Part.{Stretch, shown_at}
use Rattle.explanation.specs.declared.find.Sought.{Sought}

-- whether the words of a line say that it is sought: a rule that proposes the action, or a constraint that holds on the set
unfoldable pub tells : Sought → Epoch → Ending → List ℕ → Bool
tells (Sought.Proposing a) e (Ending.Yields x) ws = has_action (run_rules (all_events e.events) e.readings ws).actions a
tells (Sought.Violated s) e Ending.Never ws = run_constraints e.readings s ws
tells _ e _ ws = false

-- the lines that are sought
unfoldable pub sought_by : Sought → Epoch → PolicyLine → Bool
sought_by q e l = tells q e (ending_of l) (line_words l)

-- what is shown of the first line that passes, of a text of this size
unfoldable pub first_ahead : (PolicyLine → Bool) → ℕ → List (Result TextLine Refusal) → Option Stretch
first_ahead test size [] = None
first_ahead test size (Ok l ∷ ls) = if test l.line then Some (shown_at (size - length l.text) l.bytes) else first_ahead test size ls
first_ahead test size (Err r ∷ ls) = None

-- the words of a line, which fit a line's buffer, read back as they are, and can be run
pub record Writable (l : PolicyLine) : Type 0 where
  pub few : length (line_words l) ≤ 17
  pub small : Below word_limit (line_words l)
  pub whole : whole_lines (line_part l) (line_words l) ≡ true
