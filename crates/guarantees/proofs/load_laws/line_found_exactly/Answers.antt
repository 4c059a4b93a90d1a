use Rattle.decode.proofs.DecodeLaws as laws
use Rattle.guarantees.proofs.load_laws.line_found_exactly.Goals as goal

pub returns : goal.returns
returns c = laws.line_found_exactly
