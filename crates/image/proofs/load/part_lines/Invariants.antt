use Rattle.std.proofs.Common.{◌≡◌, ◌≤◌, ◌+◌, ◌-◌, length}
use Rattle.word.specs.Chunk.{words_in}
use Rattle.image.specs.Lines.{lines_from}
use Rattle.image.specs.Steps.Part.{part_answer}
use Rattle.image.proofs.load.part_lines.Given as goal

abbrev pub invariant-loop-count : goal.invariant-loop-count
invariant-loop-count l =
    (length l.rest ≤ length l.words)
    × (part_answer l.count (lines_from l.form l.kind (l.limit - l.count) (l.first + (length l.words - length l.rest)) (words_in l.rest)) ≡ part_answer 0 (lines_from l.form l.kind l.limit l.first (words_in l.words)))
