use Rattle.codegen.proofs.Compilation.{over_compiled, over_texts_compiled}
use Rattle.kinohazel.proofs.form_byte.Goals as goal

pub returns-else-form-lt256-clause-text : goal.returns-else-form-lt256-clause-text
returns-else-form-lt256-clause-text c = over_compiled c.args.form c.if-form-lt256.false

pub returns-else-form-lt256-clause-texts : goal.returns-else-form-lt256-clause-texts
returns-else-form-lt256-clause-texts c = over_texts_compiled c.args.form c.if-form-lt256.false
