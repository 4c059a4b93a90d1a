use Rattle.guarantees.proofs.Agreement.{image_of_texts, conflict_refused}
use Rattle.guarantees.proofs.decision_laws.events_conflict_refused.Goals as goal

pub returns : goal.returns
returns c = λ form maker site image w. conflict_refused form _ image (image_of_texts form maker site image w)
