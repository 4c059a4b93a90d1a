use Rattle.std.proofs.Common.{[], length, ap, arith, length-drop}
use Rattle.std.proofs.lemmas.List.{take_rest}
use Rattle.stream.proofs.MachineLaws.{goes_fed}
use Rattle.lined.proofs.parted.PartedMachine.feed.Goals as goal

pub loop-at-preserved : goal.loop-at-preserved
loop-at-preserved g c = record {
  within = omega (arith, c.take_line-at.ensures.within, c.loop-at-test.true, ap length (take_rest c.args.chunk.now c.loop-at.at), length-drop c.loop-at.at c.args.chunk.now);
  first = λ none. absurd (omega (arith, none, c.take_line-at.ensures.some));
  goes = goes_fed _ _ _ _ _ c.args.chunk.now [] c.loop-at.at c.take_line-at.result c.loop-at.invariant.goes c.take_line-at.ensures.goes;
}
