use Rattle.guarantees.proofs.Agreement.{image_of_text, changes_one}
use Rattle.guarantees.proofs.decision_laws.change_only.Goals as goal

pub returns : goal.returns
returns c = λ form text image w. changes_one form _ image (image_of_text form text image w)
