use Rattle.std.proofs.Common.{arith}
use Rattle.decompile.proofs.TextLaws.{taken_text}
use Rattle.decompile.proofs.put_decompiled.Goals as goal

pub returns-clause-ok : goal.returns-clause-ok
returns-clause-ok g c = grind (arith, taken_text _ _ c.in_ok-image.ensures)
