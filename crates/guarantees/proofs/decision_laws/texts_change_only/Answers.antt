use Rattle.guarantees.proofs.Agreement.{image_of_texts, changes_one}
use Rattle.guarantees.proofs.decision_laws.texts_change_only.Goals as goal

pub returns : goal.returns
returns c = λ form maker site image w. changes_one form _ image (image_of_texts form maker site image w)
