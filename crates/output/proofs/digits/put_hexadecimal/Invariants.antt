use Rattle.std.proofs.Common.{◌≡◌, ◌-◌}
use Rattle.output.specs.Number.{hex_digits, hex_word}
use Rattle.output.specs.Sink.{fed}
use Rattle.output.proofs.digits.put_hexadecimal.Given as goal

abbrev pub invariant-loop-place : goal.invariant-loop-place
invariant-loop-place g l = fed g.S.Sink.taken l.sink (hex_digits (8 - l.place) l.word) ≡ fed g.S.Sink.taken l.initial.sink (hex_word l.word)
