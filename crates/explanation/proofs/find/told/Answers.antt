use Rattle.std.proofs.Common.{ap, length, arith}
use Rattle.word.proofs.ChunkLaws.{words_in_length}
use Rattle.word.proofs.WordLaws.{words_length}
use Rattle.word.proofs.WriteLaws.{put_length}
use Rattle.explanation.proofs.find.told.Goals as goal

pub part-words-requires-clause-inside : goal.part-words-requires-clause-inside
part-words-requires-clause-inside c =
    omega (
      arith,
      c.requires.few,
      c.put_line-count.ensures.answer,
      words_in_length c.words.result.now,
      ap length c.words.ensures,
      words_length c.put_line-count.new.buffer,
      ap length c.put_line-count.ensures.buffer,
      put_length,
    )
