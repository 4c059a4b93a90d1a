use Rattle.std.proofs.Common.{◌-◌, take, arith}
use Rattle.std.proofs.lemmas.List.{drop-take, take-map, drop-map}
use Rattle.word.specs.Word.{between}
use Rattle.word.specs.Chunk.{word_from}
use Rattle.word.proofs.part.Goals as goal

pub returns-clause-words : goal.returns-clause-words
unfolding between
returns-clause-words c =
    grind (arith, c.requires.ordered, drop-take c.args.start (c.args.end - c.args.start) c.args.words.now, drop-map word_from c.args.start (take c.args.end c.args.words.now), take-map word_from c.args.end c.args.words.now)
