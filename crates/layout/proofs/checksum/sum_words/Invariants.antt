use Rattle.std.proofs.Common.{◌≡◌, ◌%◌, take}
use Rattle.word.specs.Chunk.{words_in}
use Rattle.word.specs.Word.{word_limit}
use Rattle.layout.specs.Layout.{sum}
use Rattle.layout.proofs.checksum.sum_words.Given as goal

abbrev pub invariant-loop-word : goal.invariant-loop-word
invariant-loop-word l = l.total ≡ sum (words_in (take l.word-index l.words)) % word_limit
