use Rattle.guarantees.proofs.Agreement.{image_of_texts, refuses_swap}
use Rattle.guarantees.proofs.decision_laws.texts_swap_refused.Goals as goal

pub returns : goal.returns
returns c = λ form newer maker site image w. refuses_swap form _ image (image_of_texts form maker site image w) newer
