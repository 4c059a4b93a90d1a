use Rattle.policy.specs.declared.epoch.Readings.{Readings}
use Rattle.word.specs.Chunk.{words_in}
use Rattle.run.specs.Steps.Wait.{Standing}
use Rattle.monitor.specs.Decision.{conflict_by, trial_words}
use Rattle.monitor.proofs.TrialLaws.{Tried}
use Rattle.monitor.proofs.waiting.resolve_waiting.Given as goal

abbrev pub invariant-loop-left : goal.invariant-loop-left
invariant-loop-left l =
    let part = words_in l.constraints in
    let rs : Readings = l.readings in
    record { tried : Tried (conflict_by part rs) (trial_words part rs) l.initial.left l.kept.bits l.words l.left l.n; standing : Standing rs part l.kept l.waiting }

abbrev pub decreases-loop-left : goal.decreases-loop-left
decreases-loop-left l = l.left
