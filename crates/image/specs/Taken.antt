-- What stands in an image that the code holds.
use Rattle.word.specs.Chunk.{words_in}
use Rattle.image.specs.Load.{Contents}
use Rattle.image.specs.declared.taken.Image.{Image}

abbrev pub image_contents : Image → Contents
image_contents i =
    record { form = i.form; parts = record { rules = words_in i.parts.rules.now; constraints = words_in i.parts.constraints.now }; counts = i.counts }
