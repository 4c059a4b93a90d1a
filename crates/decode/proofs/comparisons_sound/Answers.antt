use Rattle.std.proofs.Common.{arith}
use Rattle.word.proofs.ChunkLaws.{words_in_length}
use Rattle.decode.proofs.LengthLaws.{fill_more}
use Rattle.decode.proofs.comparisons_sound.Goals as goal

pub loop-preserved : goal.loop-preserved
loop-preserved c = grind (arith, fill_more, words_in_length)
