use Rattle.acceptance.proofs.FirstFault as laws
use Rattle.guarantees.proofs.reading_laws.text_accepted_exactly.Goals as goal

pub returns : goal.returns
returns c = laws.text_accepted_exactly
