use Rattle.guarantees.proofs.Explanations as laws
use Rattle.guarantees.proofs.explanation_laws.explained_refused.Goals as goal

pub returns : goal.returns
returns c = laws.explained_refused
