use Rattle.guarantees.proofs.Exactness as laws
use Rattle.guarantees.proofs.load_laws.faulty_exactly.Goals as goal

pub returns : goal.returns
returns c = laws.faulty_exactly
