use Rattle.std.proofs.Common.{arith}
use Rattle.decode.proofs.FormLaws.{constant_found}
use Rattle.decode.proofs.constant_sound.Goals as goal

pub returns : goal.returns
returns c = grind (arith, constant_found)
