use Rattle.std.proofs.Common.{ap, sym, ◌∙◌, Some, option_map}
use Rattle.questions.specs.Answered.{first_asked}
use Rattle.questions.specs.Steps.Held.{asked_with}
use Rattle.questions.proofs.NameLaws.{first_read}
use Rattle.questions.proofs.names.with_name.Goals as goal

pub returns-in-Some : goal.returns-in-Some
unfolding asked_with
returns-in-Some c = rw c.in-Nothing.is (ap Some c.first_asked.ensures ∙ ap (option_map first_asked) (sym c.in-Some.is ∙ c.named.ensures) ∙ first_read _)
