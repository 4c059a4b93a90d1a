use Rattle.std.proofs.Common.{◌-◌, ◌≤◌, ◌≡◌, length}
use Rattle.word.specs.Chunk.{words_in}
use Rattle.decode.specs.Steps.Scan.{comparisons_fill}
use Rattle.decode.proofs.comparisons_sound.Given as goal

abbrev pub invariant-loop : goal.invariant-loop
invariant-loop l = (length l.rest ≤ length l.words) × (comparisons_fill (4 - l.counter) (length l.rest) (words_in l.rest) ≡ comparisons_fill 4 (length l.words) (words_in l.words))
