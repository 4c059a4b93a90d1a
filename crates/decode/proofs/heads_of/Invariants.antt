use Rattle.std.proofs.Common.{length}
use Rattle.word.specs.Chunk.{words_in}
use Rattle.decode.proofs.LengthLaws.{Heading}
use Rattle.decode.proofs.heads_of.Given as goal

abbrev pub invariant-loop-i : goal.invariant-loop-i
invariant-loop-i l = Heading l.part (words_in l.words) (length l.words) l.numbers l.i
