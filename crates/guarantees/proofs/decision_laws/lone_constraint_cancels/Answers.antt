use Rattle.guarantees.proofs.Lone as laws
use Rattle.guarantees.proofs.decision_laws.lone_constraint_cancels.Goals as goal

pub returns : goal.returns
returns c = laws.lone_constraint_cancels
