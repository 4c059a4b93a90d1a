use Rattle.guarantees.proofs.Agreement.{image_of_text, refuses_swap}
use Rattle.guarantees.proofs.decision_laws.swap_refused.Goals as goal

pub returns : goal.returns
returns c = λ form newer text image w. refuses_swap form _ image (image_of_text form text image w) newer
