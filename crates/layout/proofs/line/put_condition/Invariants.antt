use Rattle.std.proofs.Common.{◌≡◌, ◌+◌, ◌/◌, ◌≤◌, length, drop}
use Rattle.word.specs.Steps.Write.{put_words}
use Rattle.layout.specs.Layout.{condition_words}
use Rattle.layout.specs.Steps.Size.{condition_size}
use Rattle.layout.proofs.line.put_condition.Given as goal

abbrev pub invariant-loop-comparison : goal.invariant-loop-comparison
invariant-loop-comparison l =
    (l.left ≡ condition_size (drop l.comparison-index l.comparisons)) × (l.at + l.left ≤ length l.buffer / 4)
    × (put_words l.buffer l.at (condition_words (drop l.comparison-index l.comparisons) l.ending) ≡ put_words l.initial.buffer l.index (condition_words l.comparisons l.ending))
