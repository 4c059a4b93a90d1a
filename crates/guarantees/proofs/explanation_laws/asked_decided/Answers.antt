use Rattle.guarantees.proofs.Explanations as laws
use Rattle.guarantees.proofs.explanation_laws.asked_decided.Goals as goal

pub returns : goal.returns
returns c = laws.asked_decided
