use Rattle.std.proofs.Common.{arith, rules}
use Rattle.run.proofs.StandLaws.{adds, to_line, keeps_first, keeps_line, keeps_to, keeps_stands, keeps_next, keeps_all}
use Rattle.run.proofs.waiting.Waiting.keep.Goals as goal

pub loop-left-init : goal.loop-left-init
loop-left-init c =
    keeps_first (adds (rw c.view-view.ensures c.requires.standing) c.requires.action (search rules) (λ n. search rules) c.insert-more.ensures) c.requires.action (rw (c.view-view.ensures, c.insert-more.ensures) c.requires.free) (search rules) (search rules)

pub reach-reached-requires : goal.reach-reached-requires
reach-reached-requires c = keeps_to (keeps_line c.loop-left.invariant c.loop-left-test.true) (to_line c.loop-left.invariant.at c.loop-left-test.true)

pub note-requires : goal.note-requires
note-requires c =
    let l = to_line c.loop-left.invariant.at c.loop-left-test.true in
    let stands = keeps_stands (keeps_line c.loop-left.invariant c.loop-left-test.true) l c.reach-reached.ensures in
    record { line = omega arith; under = stands.under; few = omega (arith, stands.within) }

pub loop-left-preserved : goal.loop-left-preserved
loop-left-preserved c =
    let l = to_line c.loop-left.invariant.at c.loop-left-test.true in
    rw c.note.ensures (keeps_next (keeps_line c.loop-left.invariant c.loop-left-test.true) l c.reach-reached.ensures)

pub returns : goal.returns
returns c = rw (← c.view-view.ensures, ← c.insert-more.ensures) (keeps_all c.loop-left.invariant c.loop-left-test.false _ (rw (c.view-view.ensures, c.insert-more.ensures) c.requires.tried))
