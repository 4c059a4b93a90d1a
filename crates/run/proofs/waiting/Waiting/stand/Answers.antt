use Rattle.std.proofs.Common.{◌<◌, arith, rules, inl}
use Rattle.word.proofs.ChunkLaws.{words_in_length}
use Rattle.operation.proofs.WholeLaws.{whole_on_lines}
use Rattle.run.proofs.WaitLaws.{line_first}
use Rattle.run.proofs.StandLaws.{told_stands, setting_first, setting_next, setting_last, setting_holds}
use Rattle.run.proofs.waiting.Waiting.stand.Goals as goal

pub loop-at-init : goal.loop-at-init
loop-at-init c = rw c.requires.new (setting_first (whole_on_lines _ _ c.requires.whole))

pub reach-reached-requires : goal.reach-reached-requires
reach-reached-requires c =
    (line_first (omega (arith, words_in_length c.args.words.now)) c.nth_word-first.ensures c.loop-at.invariant.on c.fetches.ensures.count c.skip.ensures).0

pub note-requires : goal.note-requires
note-requires c = grind (arith, line_first, words_in_length, told_stands)

pub loop-at-smaller : goal.loop-at-smaller
loop-at-smaller c = omega (arith, c.fetches.ensures.count 0, c.loop-at-test.true)

pub loop-at-preserved : goal.loop-at-preserved
loop-at-preserved c =
    let l = line_first (omega (arith, words_in_length c.args.words.now)) c.nth_word-first.ensures c.loop-at.invariant.on c.fetches.ensures.count c.skip.ensures in
    let room : c.loop-at.self.count < 64 = omega (arith, c.loop-at.invariant.lines.few, c.if-line-eq-LINES.false) in
    setting_next c.loop-at.invariant c.reach-reached.ensures room l.1 c.in_default.not-Holds _ (search rules)

pub returns-in-Holds-clause-decline : goal.returns-in-Holds-clause-decline
returns-in-Holds-clause-decline c e = inl (rw (← c.view-view.ensures) (setting_holds c.loop-at.invariant c.reach-reached.ensures c.in-Holds.is))

pub returns-clause-stand : goal.returns-clause-stand
returns-clause-stand c e = rw (← c.view-view.ensures) (setting_last c.loop-at.invariant (omega (arith, words_in_length c.args.words.now)))
