use Rattle.std.proofs.Common.{arith, eqb-true}
use Rattle.word.proofs.ChunkLaws.{words_in_length}
use Rattle.decode.proofs.ReadLaws.{line_from_none, remains_past, line_done}
use Rattle.decode.proofs.read_line.Goals as goal

pub returns-then-is_empty : goal.returns-then-is_empty
returns-then-is_empty c = grind (arith, line_from_none, words_in_length, eqb-true)

pub loop-at-preserved : goal.loop-at-preserved
loop-at-preserved c =
    remains_past _ _ _ c.loop-at.at c.loop-at.invariant (rw words_in_length c.loop-at-test.true) _ _ _ c.part_at-said.ensures c.push_part.ensures (rw c.constants.ensures.count (omega arith))

pub returns : goal.returns
returns c = grind (arith, line_done, words_in_length)
