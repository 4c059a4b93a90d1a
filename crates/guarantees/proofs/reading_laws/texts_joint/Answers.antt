use Rattle.acceptance.proofs.Texts as laws
use Rattle.guarantees.proofs.reading_laws.texts_joint.Goals as goal

pub returns : goal.returns
returns c = (λ form maker site p. (laws.texts_joint form maker site p, laws.joint_texts form maker site p))
