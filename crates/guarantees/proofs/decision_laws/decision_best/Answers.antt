use Rattle.guarantees.proofs.Agreement.{image_of_texts, accepts_best}
use Rattle.guarantees.proofs.decision_laws.decision_best.Goals as goal

pub returns : goal.returns
returns c = λ form maker site image w. accepts_best form _ image (image_of_texts form maker site image w)
