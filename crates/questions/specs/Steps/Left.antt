-- What is answered along the rest of the input, where n questions were answered and a line is open: names of it that have ended, and what
-- stands behind them.
use Rattle.std.specs.Prelude.{◌≡◌, ℕ, List, [], ◌∷◌, ◌++◌, refl, Result, if◌then◌else◌}
use Rattle.lined.specs.Lines.{ended_behind, open_behind}
use Rattle.report.specs.Report.{next_number}
use Rattle.explanation.specs.Why.{Explanation}
use Rattle.policy.specs.declared.fault.Refusal.{Refusal}
use Rattle.questions.specs.Answered.{word_of, epoch_part, names_in, explained_line, answer_for}
use Rattle.questions.specs.Steps.Held.{asked_in, is_begun}
use Rattle.questions.specs.declared.names.Names.{Names}

module _ (maker site : List ℕ) where
  abbrev pub answer_in : Names → List ℕ → Result Explanation Refusal
  answer_in names line = answer_for maker site (asked_in names (names_in (word_of line))) (epoch_part line)

  -- the open line where more may follow: it is no question yet
  abbrev pub no_line : ℕ → Names → List ℕ → List ℕ
  no_line n names line = []

  -- and where the input ends
  abbrev pub last_line : ℕ → Names → List ℕ → List ℕ
  last_line n names line = if is_begun names line then explained_line (next_number n) (answer_in names line) else []

  module _ (last : ℕ → Names → List ℕ → List ℕ) where
    -- the lines that end, of which the first has those names, and then the open one as `last` says
    unfoldable pub answers_from : ℕ → Names → List (List ℕ) → List ℕ → List ℕ
    answers_from n names [] line = last n names line
    answers_from n names (ended ∷ lines) line = explained_line (next_number n) (answer_in names ended) ++ answers_from (next_number n) Names.Nothing lines line

    abbrev pub answers_behind : ℕ → Names → (line bytes : List ℕ) → List ℕ
    answers_behind n names line bytes = answers_from n names (ended_behind line bytes) (open_behind line bytes)

  pub none_so_far : (n : ℕ) (names : Names) (line : List ℕ) → answers_behind no_line n names line [] ≡ []
  unfolding answers_from
  none_so_far n names line = refl
