use Rattle.std.proofs.Common.{sym, arith, rules}
use Rattle.word.proofs.ChunkLaws.{words_in_length}
use Rattle.run.proofs.StandLaws.{adds, tries_first, tries_line, tries_last, tries_behind, tries_holds}
use Rattle.run.proofs.waiting.Waiting.try_action.Goals as goal

pub loop-left-init : goal.loop-left-init
loop-left-init c =
    tries_first (adds (rw c.view-view.ensures c.requires.standing) c.requires.action (search rules) (λ n. search rules) c.insert-more.ensures) (omega (arith, words_in_length c.args.words.now, c.requires.few))

pub reach-reached-requires : goal.reach-reached-requires
reach-reached-requires c = (tries_line c.loop-left.invariant c.loop-left-test.true).line.line

pub fetched-requires : goal.fetched-requires
fetched-requires c = let y = tries_line c.loop-left.invariant c.loop-left-test.true in record { few = omega arith; small = omega (arith, y.few_before); forward = y.starts_before }

pub overflow_add-result : goal.overflow_add-result
overflow_add-result c = let y = tries_line c.loop-left.invariant c.loop-left-test.true in omega (arith, c.fetched.ensures)

pub overflow_add-result-in-Holds : goal.overflow_add-result-in-Holds
overflow_add-result-in-Holds c = let y = tries_line c.loop-left.invariant c.loop-left-test.true in omega (arith, c.fetched.ensures, c.reach-reached.ensures.within)

pub overflow_sub-result : goal.overflow_sub-result
overflow_sub-result c =
    let holds = tries_holds (tries_line c.loop-left.invariant c.loop-left-test.true) c.reach-reached.ensures c.in-Holds.is in
    omega (arith, c.fetched.ensures)

pub overflow_sub-result-in-Holds : goal.overflow_sub-result-in-Holds
overflow_sub-result-in-Holds c =
    let holds = tries_holds (tries_line c.loop-left.invariant c.loop-left-test.true) c.reach-reached.ensures c.in-Holds.is in
    omega (arith, c.fetched.ensures)

pub returns-in-Holds : goal.returns-in-Holds
returns-in-Holds c =
    let holds = tries_holds (tries_line c.loop-left.invariant c.loop-left-test.true) c.reach-reached.ensures c.in-Holds.is in
    rw (← c.view-view.ensures, ← c.insert-more.ensures) (record { conflict = sym holds.0; words = omega (arith, c.fetched.ensures) })

pub overflow_add-fetched : goal.overflow_add-fetched
overflow_add-fetched c = let y = tries_line c.loop-left.invariant c.loop-left-test.true in omega (arith, c.reach-reached.ensures.within)

pub loop-left-preserved : goal.loop-left-preserved
loop-left-preserved c = tries_behind (tries_line c.loop-left.invariant c.loop-left-test.true) c.reach-reached.ensures c.in_default.not-Holds

pub returns : goal.returns
returns c =
    let last = tries_last c.loop-left.invariant c.loop-left-test.false in
    rw (← c.view-view.ensures, ← c.insert-more.ensures) (record { conflict = sym last.0; words = sym last.1 })
