use Rattle.std.proofs.Common.{◌≡◌, drop}
use Rattle.word.specs.Chunk.{words_in}
use Rattle.output.specs.Sink.{fed}
use Rattle.session.specs.Listed.{word_lines}
use Rattle.session.proofs.listing.put_words.Given as goal

abbrev pub invariant-loop-word : goal.invariant-loop-word
invariant-loop-word g l =
    fed g.S.Sink.taken l.sink (word_lines (words_in (drop l.word-index l.words))) ≡ fed g.S.Sink.taken l.initial.sink (word_lines (words_in l.words))
