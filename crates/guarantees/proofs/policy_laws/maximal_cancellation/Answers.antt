use Rattle.pdl.proofs.Monitor as laws
use Rattle.guarantees.proofs.policy_laws.maximal_cancellation.Goals as goal

pub returns : goal.returns
returns c = laws.maximal_cancellation
