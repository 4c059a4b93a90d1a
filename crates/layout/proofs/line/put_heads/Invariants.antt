use Rattle.std.proofs.Common.{◌≡◌, ◌+◌, ◌/◌, ◌≤◌, length, drop}
use Rattle.word.specs.Steps.Write.{put_words}
use Rattle.layout.specs.Steps.Heads.{head_words}
use Rattle.layout.proofs.line.put_heads.Given as goal

abbrev pub invariant-loop-head : goal.invariant-loop-head
invariant-loop-head l =
    (l.left + l.head-index ≡ l.size) × (l.at + l.left ≤ length l.buffer / 4) × (put_words l.buffer l.at (head_words (drop l.head-index l.heads) l.left) ≡ put_words l.initial.buffer l.index (head_words l.heads l.size))
