use Rattle.guarantees.proofs.Decisions as laws
use Rattle.guarantees.proofs.decision_laws.image_decision_best.Goals as goal

pub returns : goal.returns
returns c = laws.held_best
