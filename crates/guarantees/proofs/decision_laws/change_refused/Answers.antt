use Rattle.guarantees.proofs.Agreement.{image_of_text, refuses_change}
use Rattle.guarantees.proofs.decision_laws.change_refused.Goals as goal

pub returns : goal.returns
returns c = λ form text image w. refuses_change form _ image (image_of_text form text image w)
