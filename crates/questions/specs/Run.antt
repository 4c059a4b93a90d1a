-- What a run on two texts leaves, by how it ends.
use Rattle.std.specs.Prelude.{◌≡◌, ℕ, List, take, Result, Ok, Err}
use Rattle.policy.specs.Policy.{Policy}
use Rattle.policy.specs.declared.fault.Refusal.{Refusal}
use Rattle.rule_text.specs.Text.{read_texts}
use Rattle.codegen.specs.Compile.{newest_form}
use Rattle.report.specs.Report.{texts_refusal_line}
use Rattle.stream.specs.declared.failure.Failure.{Failure}
use Rattle.stream.specs.Event.{GoOn, Fails}
use Rattle.stream.specs.Lines.{whole_part}
use Rattle.stream.specs.Inputs.{IsReadWhole, BothRead}
use Rattle.stream.specs.Machine.{Known, Reads, Sends, AnswersAll, EndsBy, IsWriteFailure}
use Rattle.questions.specs.Answered.{answers_printed}
use Rattle.questions.specs.declared.texts.ExplainFailure.{ExplainFailure}
use Rattle.questions.specs.declared.texts.ExplainFailure.TheVariants.{Maker, Site, Questions}

module _ (maker site : List ℕ) where
  -- before the end of the input, what is printed for the lines that have ended
  unfoldable pub answers_due : List ℕ → List ℕ
  answers_due input = answers_printed maker site (whole_part input)

-- what was read of the texts; and with it all questions were answered. Of refused texts the refusal was written, and nothing was read
abbrev pub AnswersTexts : Result Policy Refusal → (maker site : List ℕ) (old new : Known) → Type 0
AnswersTexts (Err r) maker site old new = Sends (GoOn 0) old new (texts_refusal_line r)
AnswersTexts (Ok policy) maker site old new = AnswersAll (answers_printed maker site) (answers_due maker site) old new

-- or a call failed. Of refused texts a front of the refusal was written, and nothing was read
abbrev pub QuestionsEndBy : Failure → Result Policy Refusal → (maker site : List ℕ) (old new : Known) → Type 0
QuestionsEndBy e (Err r) maker site old new = IsWriteFailure e × ((n : ℕ) × Sends (Fails e) old new (take n (texts_refusal_line r)))
QuestionsEndBy e (Ok policy) maker site old new = EndsBy e (answers_due maker site) (answers_printed maker site) old new

-- ---- the texts are inputs, too

-- both were read to their ends, and then the questions on them were answered
abbrev pub ReadsAndAnswers : (maker maker' site site' old new : Known) → Type 0
ReadsAndAnswers maker maker' site site' old new =
    BothRead maker maker' site site' (λ first second. AnswersTexts (read_texts newest_form first second) first second old new)

-- where a text could not be read, no question was read and nothing was written, nor was the site's read where it was the maker's
abbrev pub ExplainEndsBy : ExplainFailure → (maker maker' site site' old new : Known) → Type 0
ExplainEndsBy (Maker e) maker maker' site site' old new = ((bytes : List ℕ) × Reads (Fails (Failure.Read e)) maker maker' bytes) × (site' ≡ site) × (new ≡ old)
ExplainEndsBy (Site e) maker maker' site site' old new =
    ((first : List ℕ) × IsReadWhole maker maker' first) × ((bytes : List ℕ) × Reads (Fails (Failure.Read e)) site site' bytes) × (new ≡ old)
ExplainEndsBy (Questions e) maker maker' site site' old new =
    BothRead maker maker' site site' (λ first second. QuestionsEndBy e (read_texts newest_form first second) first second old new)
