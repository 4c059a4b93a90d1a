use Rattle.acceptance.proofs.OneLine as laws
use Rattle.guarantees.proofs.reading_laws.line_accepted_exactly.Goals as goal

pub returns : goal.returns
returns c = laws.line_accepted_exactly
