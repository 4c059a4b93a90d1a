use Rattle.std.proofs.Common.{sym, ◌∙◌, arith, drop_of_length-le}
use Rattle.word.specs.Chunk.{words_in}
use Rattle.word.proofs.ChunkLaws.{words_in_length}
use Rattle.run.specs.Run.{ran, reserved_by}
use Rattle.run.proofs.TriggerLaws.{effects_in, line_at}
use Rattle.run.proofs.triggers.reserved.Goals as goal

pub overflow_sub-end : goal.overflow_sub-end
overflow_sub-end c = omega (arith, c.fetches.ensures.count 0)

pub nth_word-requires : goal.nth_word-requires
nth_word-requires c =
    let l = line_at {ws = words_in c.args.words.now} {at = c.loop-at.at} (omega (arith, words_in_length c.args.words.now)) c.nth_word-first.ensures c.fetches.ensures.count c.skip.ensures c.loop-at.invariant.whole in
    omega (arith, l.some, l.inside, words_in_length c.args.words.now)

pub loop-at-smaller : goal.loop-at-smaller
loop-at-smaller c = omega (arith, c.fetches.ensures.count 0, c.loop-at-test.true)

pub loop-at-preserved : goal.loop-at-preserved
loop-at-preserved c =
    let l = line_at (omega (arith, words_in_length c.args.words.now)) c.nth_word-first.ensures c.fetches.ensures.count c.skip.ensures c.loop-at.invariant.whole in
    record { inside = omega (arith, l.inside, words_in_length c.args.words.now); whole = l.whole; same = rw (c.with_word-effects.ensures 0, c.nth_word.ensures) (sym (l.effects c.loop-at.effects)) ∙ c.loop-at.invariant.same }

pub returns : goal.returns
unfolding reserved_by ran
returns c = grind (arith, effects_in, drop_of_length-le, words_in_length)
