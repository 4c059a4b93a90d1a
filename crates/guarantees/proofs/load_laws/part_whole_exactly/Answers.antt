use Rattle.exactness.proofs.PartLines as laws
use Rattle.guarantees.proofs.load_laws.part_whole_exactly.Goals as goal

pub returns : goal.returns
returns c = laws.part_whole_exactly
