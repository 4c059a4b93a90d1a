use Rattle.printer.proofs.Printing as laws
use Rattle.guarantees.proofs.writing_laws.acceptable_texts.Goals as goal

pub returns : goal.returns
returns c = laws.acceptable_texts
