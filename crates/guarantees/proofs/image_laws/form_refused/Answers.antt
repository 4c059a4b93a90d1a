use Rattle.codegen.proofs.Compilation as laws
use Rattle.guarantees.proofs.image_laws.form_refused.Goals as goal

pub returns : goal.returns
returns c = λ form unknown maker site buffer. laws.texts_form_refused form maker site buffer unknown
