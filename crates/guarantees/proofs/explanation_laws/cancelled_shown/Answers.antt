use Rattle.guarantees.proofs.Explanations as laws
use Rattle.guarantees.proofs.explanation_laws.cancelled_shown.Goals as goal

pub returns : goal.returns
returns c = laws.cancelled_shown
