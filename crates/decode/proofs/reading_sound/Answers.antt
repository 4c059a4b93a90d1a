use Rattle.std.proofs.Common.{arith}
use Rattle.decode.proofs.FormLaws.{reading_found}
use Rattle.decode.proofs.reading_sound.Goals as goal

pub returns : goal.returns
returns c = reading_found c.args.word c.args.left (omega arith) (omega arith) _ c.relation_lowest-rest.ensures
