use Rattle.std.proofs.Common.{refl, arith}
use Rattle.layout.proofs.WeightLaws.{plain_more, weighted_more}
use Rattle.layout.specs.Layout.{sum, weighted_word, weighted_from}
use Rattle.layout.proofs.checksum.sum_twice.Goals as goal

pub loop-word-init : goal.loop-word-init
unfolding sum weighted_word weighted_from
loop-word-init c = (refl, (refl, refl))

pub loop-word-preserved : goal.loop-word-preserved
loop-word-preserved c =
    let is-word = c.from_be_bytes-word.ensures in
    let inside = c.loop-word-test.true in
    let i = c.loop-word.invariant in
    let total = plain_more c.args.words.now c.loop-word.word-index inside _ is-word _ i.0 in
    let weighted = weighted_more c.args.words.now c.loop-word.word-index inside _ is-word _ _ i.1.0 i.1.1 in
    (total, (weighted, omega (arith, i.1.1)))
