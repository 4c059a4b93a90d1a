use Rattle.acceptance.proofs.Prefixed as laws
use Rattle.guarantees.proofs.reading_laws.wide_token_refused.Goals as goal

pub returns : goal.returns
returns c = laws.wide_token_refused
