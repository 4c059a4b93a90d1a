use Rattle.guarantees.proofs.RoundTrip as laws
use Rattle.guarantees.proofs.image_laws.same_texts.Goals as goal

pub returns : goal.returns
returns c = laws.same_texts
