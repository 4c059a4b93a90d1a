use Rattle.guarantees.proofs.Reductions as laws
use Rattle.guarantees.proofs.decision_laws.refused_exactly.Goals as goal

pub returns : goal.returns
returns c = laws.refused_exactly
