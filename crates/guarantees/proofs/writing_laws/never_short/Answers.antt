use Rattle.decompile.proofs.Decompilation as laws
use Rattle.guarantees.proofs.writing_laws.never_short.Goals as goal

pub returns : goal.returns
returns c = (λ image buffer bounded contents taken h. laws.never_short image buffer contents taken bounded h)
