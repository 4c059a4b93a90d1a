use Rattle.policy.specs.Epoch.{viewed}
use Rattle.std.proofs.Common.{◌+◌, ◌-◌, ◌≤◌, length}
use Rattle.word.specs.Chunk.{words_in}
use Rattle.run.proofs.ConstraintLaws.{Begins}
use Rattle.run.proofs.constraints.run_constraints.Given as goal

abbrev pub invariant-loop-word : goal.invariant-loop-word
invariant-loop-word l = record { onward : l.initial.behind ≤ l.behind; within : l.behind ≤ length l.words; begins : Begins (viewed l.view) l.set (words_in l.words) l.behind l.from }

abbrev pub decreases-loop-word : goal.decreases-loop-word
decreases-loop-word l = length l.words + 1 - l.behind

abbrev pub invariant-loop-test : goal.invariant-loop-test
invariant-loop-test l = record { onward : l.initial.behind ≤ l.behind; within : l.behind ≤ length l.words; begins : Begins (viewed l.view) l.set (words_in l.words) l.behind l.from }

abbrev pub decreases-loop-test : goal.decreases-loop-test
decreases-loop-test l = length l.words + 1 - l.behind

abbrev pub invariant-constraints : goal.invariant-constraints
invariant-constraints l = record { onward : l.initial.behind ≤ l.behind; begins : Begins (viewed l.view) l.set (words_in l.words) l.behind l.from }

abbrev pub decreases-constraints : goal.decreases-constraints
decreases-constraints l = length l.words + 1 - l.behind
