use Rattle.std.proofs.Common.{length}
use Rattle.image_cases.proofs.show_cases.Given as goal

abbrev pub decreases-loop-rest : goal.decreases-loop-rest
decreases-loop-rest g l = length l.rest
