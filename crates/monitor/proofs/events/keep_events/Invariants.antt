use Rattle.policy.specs.declared.epoch.Epoch.{Epoch}
use Rattle.word.specs.Chunk.{words_in}
use Rattle.monitor.proofs.EventLaws.{KeptSoFar}
use Rattle.monitor.proofs.events.keep_events.Given as goal

abbrev pub invariant-loop-left : goal.invariant-loop-left
invariant-loop-left l =
    let e : Epoch = l.epoch in
    KeptSoFar (words_in l.image.parts.rules.now) (words_in l.image.parts.constraints.now) e l.kept l.effects l.words l.left l.n

abbrev pub decreases-loop-left : goal.decreases-loop-left
decreases-loop-left l =
    l.left
