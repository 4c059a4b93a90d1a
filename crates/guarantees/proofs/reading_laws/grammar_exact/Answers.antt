use Rattle.acceptance.proofs.Written as laws
use Rattle.guarantees.proofs.reading_laws.grammar_exact.Goals as goal

pub returns : goal.returns
returns c = (λ ts l. (laws.line_in ts l, laws.line_read ts l))
