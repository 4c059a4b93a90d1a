use Rattle.std.proofs.Common.{◌≡◌, drop}
use Rattle.output.specs.Sink.{fed}
use Rattle.image.specs.Taken.{image_contents}
use Rattle.decompile.specs.Steps.Walk.{parts_text, text_in}
use Rattle.decompile.proofs.put_text.Given as goal

abbrev pub invariant-loop-part : goal.invariant-loop-part
invariant-loop-part g l = fed g.S.Sink.taken l.sink (parts_text (image_contents l.image) (drop l.part-index l.part-items)) ≡ fed g.S.Sink.taken l.fn.sink (text_in (image_contents l.image))
