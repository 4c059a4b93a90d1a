use Rattle.std.proofs.Common.{◌≡◌, ◌≤◌, drop, fold, length}
use Rattle.questions.specs.Steps.Held.{with_byte}
use Rattle.questions.specs.Steps.Place.{open_at}
use Rattle.questions.specs.Steps.Sizes.{name_held}
use Rattle.questions.proofs.line.take_word.Given as goal

abbrev pub invariant-loop-byte : goal.invariant-loop-byte
invariant-loop-byte l = record {
  value : fold with_byte (open_at l.end l.held) (drop l.byte-index l.word) ≡ fold with_byte (open_at l.initial.end l.initial.held) l.word;
  few : l.end.size ≤ name_held;
  long : length l.held ≡ length l.initial.held;
}
