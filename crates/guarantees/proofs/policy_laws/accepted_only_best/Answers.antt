use Rattle.pdl.proofs.BestLaws.{accepted_only_best}
use Rattle.guarantees.proofs.policy_laws.accepted_only_best.Goals as goal

pub returns : goal.returns
returns c = accepted_only_best
