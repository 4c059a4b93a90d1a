use Rattle.codegen.proofs.Compilation as laws
use Rattle.guarantees.proofs.image_laws.texts_written.Goals as goal

pub returns : goal.returns
returns c = laws.texts_written
