use Rattle.guarantees.proofs.Agreement.{image_of_texts, exchanges_two}
use Rattle.guarantees.proofs.decision_laws.swap_only.Goals as goal

pub returns : goal.returns
returns c = λ form maker site image w. exchanges_two form _ image (image_of_texts form maker site image w)
