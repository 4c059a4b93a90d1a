use Rattle.guarantees.proofs.Agreement.{image_of_texts, refuses_change}
use Rattle.guarantees.proofs.decision_laws.texts_change_refused.Goals as goal

pub returns : goal.returns
returns c = λ form maker site image w. refuses_change form _ image (image_of_texts form maker site image w)
