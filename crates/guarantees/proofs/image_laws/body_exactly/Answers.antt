use Rattle.guarantees.proofs.Exactness as laws
use Rattle.guarantees.proofs.image_laws.body_exactly.Goals as goal

pub returns : goal.returns
returns c = laws.body_exactly
