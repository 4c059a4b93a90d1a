-- The answer to a question on an image, by the names that have ended and the line behind them.
use Rattle.std.specs.Prelude.{ℕ, List, Result, Err, Option, Some, None}
use Rattle.policy.specs.declared.fault.Refusal.{Refusal}
use Rattle.explanation.specs.Steps.On.{explained_on}
use Rattle.explanation.specs.Why.{Explanation}
use Rattle.questions.specs.Answered.{word_of, epoch_part, no_action, explained_line}
use Rattle.questions.specs.Steps.Held.{asked_with}
use Rattle.questions.specs.declared.names.Asked.{Asked}
use Rattle.questions.specs.declared.names.Names.{Names}

module _ (maker site image : List ℕ) where
  unfoldable pub answer_on : Option Asked → List ℕ → Result Explanation Refusal
  answer_on (Some a) epoch = explained_on maker site a.pending epoch a.action image
  answer_on None epoch = Err (no_action epoch)

  abbrev pub line_answer : Names → List ℕ → Result Explanation Refusal
  line_answer names line = answer_on (asked_with names (word_of line)) (epoch_part line)

  unfoldable pub question_line : ℕ → Names → List ℕ → List ℕ
  question_line n names line = explained_line n (line_answer names line)
