use Rattle.guarantees.proofs.Agreement.{image_of_texts, obeys_events}
use Rattle.guarantees.proofs.decision_laws.events_decision_obeys.Goals as goal

pub returns : goal.returns
returns c = λ form maker site image w. obeys_events form _ image (image_of_texts form maker site image w)
