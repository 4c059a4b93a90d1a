use Rattle.std.proofs.Common.{◌-◌, length}
use Rattle.word.specs.Chunk.{words_in}
use Rattle.decode.proofs.ReadLaws.{Remains}
use Rattle.decode.proofs.read_line.Given as goal

abbrev pub invariant-loop-at : goal.invariant-loop-at
invariant-loop-at l = Remains l.part (words_in l.front) l.parts l.at

abbrev pub decreases-loop-at : goal.decreases-loop-at
decreases-loop-at l = length l.front - l.at
