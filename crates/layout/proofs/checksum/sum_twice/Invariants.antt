use Rattle.std.proofs.Common.{◌≡◌, ◌%◌, take}
use Rattle.word.specs.Chunk.{words_in}
use Rattle.word.specs.Word.{word_limit}
use Rattle.layout.specs.Layout.{sum, weighted_word}
use Rattle.layout.proofs.checksum.sum_twice.Given as goal

abbrev pub invariant-loop-word : goal.invariant-loop-word
invariant-loop-word l =
    (l.plain ≡ sum (words_in (take l.word-index l.words)) % word_limit) × ((l.weighted ≡ weighted_word (words_in (take l.word-index l.words))) × (l.weight ≡ l.word-index % word_limit))
