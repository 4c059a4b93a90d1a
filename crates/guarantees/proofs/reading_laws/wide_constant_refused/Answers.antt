use Rattle.acceptance.proofs.Wide as laws
use Rattle.guarantees.proofs.reading_laws.wide_constant_refused.Goals as goal

pub returns : goal.returns
returns c = laws.wide_constant_refused
