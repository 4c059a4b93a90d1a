use Rattle.acceptance.proofs.Prefixed as laws
use Rattle.guarantees.proofs.reading_laws.bare_prefix_refused.Goals as goal

pub returns : goal.returns
returns c = laws.bare_prefix_refused
