use Rattle.std.proofs.Common.{◌≡◌, ◌-◌, length, drop}
use Rattle.output.specs.Buffer.{appended}
use Rattle.output.specs.Sink.{advanced}
use Rattle.output.proofs.page.PageSink.put.Given as goal

abbrev pub invariant-loop-byte : goal.invariant-loop-byte
invariant-loop-byte l = record {
  holds : appended l.out l.end (drop l.byte-index l.bytes) ≡ appended l.initial.out l.initial.end l.bytes;
  reached : advanced l.end (length l.bytes - l.byte-index) (length l.out) ≡ advanced l.initial.end (length l.bytes) (length l.initial.out);
}
