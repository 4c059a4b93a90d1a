use Rattle.guarantees.proofs.Explanations as laws
use Rattle.guarantees.proofs.explanation_laws.outcome_told.Goals as goal

pub returns : goal.returns
returns c = laws.outcome_told
