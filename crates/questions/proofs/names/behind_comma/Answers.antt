use Rattle.std.proofs.Common.{ap, sym, refl, ◌∙◌, Some, option_map}
use Rattle.questions.specs.Answered.{with_event, behind_comma}
use Rattle.questions.proofs.NameLaws.{event_read}
use Rattle.questions.proofs.names.behind_comma.Goals as goal

pub returns-in-Some-named : goal.returns-in-Some-named
unfolding behind_comma
returns-in-Some-named c = rw c.in-Some.is (ap Some c.with_event.ensures ∙ ap (option_map (with_event c.in-Some.asked)) (sym c.in-Some-named.is ∙ c.named.ensures) ∙ event_read c.in-Some.asked _)

pub returns-in-None : goal.returns-in-None
unfolding behind_comma
returns-in-None c = rw c.in-Some.is (ap (option_map (with_event c.in-Some.asked)) (sym c.in-None.is ∙ c.named.ensures) ∙ event_read c.in-Some.asked _)

pub returns-in_default : goal.returns-in_default
unfolding behind_comma
returns-in_default c = rw c.in_default.is refl
