use Rattle.guarantees.proofs.RoundTrip as laws
use Rattle.guarantees.proofs.image_laws.pairs_same_texts.Goals as goal

pub returns : goal.returns
returns c = laws.pairs_same_texts
