use Rattle.decode.proofs.WordLaws.{words_below}
use Rattle.decode.proofs.words_fit.Goals as goal

pub returns : goal.returns
returns c = words_below c.args.words.now c.told-words (rw (← c.as_flattened.ensures.value) c.bytes_fit.ensures)
