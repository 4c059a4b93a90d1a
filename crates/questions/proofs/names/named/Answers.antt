use Rattle.questions.proofs.NameLaws.{named_none}
use Rattle.questions.proofs.names.named.Goals as goal

pub returns-in_default : goal.returns-in_default
returns-in_default c = named_none c.args.letter c.args.name.now c.in_default.len_below
