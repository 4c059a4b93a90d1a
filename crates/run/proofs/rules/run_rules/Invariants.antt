use Rattle.policy.specs.Epoch.{viewed}
use Rattle.std.proofs.Common.{◌+◌, ◌-◌, ◌≤◌, length}
use Rattle.word.specs.Chunk.{words_in}
use Rattle.run.proofs.RuleLaws.{Running}
use Rattle.run.proofs.rules.run_rules.Given as goal

abbrev pub invariant-loop-test : goal.invariant-loop-test
invariant-loop-test l = record { onward : l.initial.behind ≤ l.behind; within : l.behind ≤ length l.words; running : Running l.events (viewed l.view) (words_in l.words) l.effects l.behind l.from }

abbrev pub decreases-loop-test : goal.decreases-loop-test
decreases-loop-test l = length l.words + 1 - l.behind

abbrev pub invariant-loop-behind : goal.invariant-loop-behind
invariant-loop-behind l = Running l.events (viewed l.view) (words_in l.words) l.effects l.behind l.from

abbrev pub decreases-loop-behind : goal.decreases-loop-behind
decreases-loop-behind l = length l.words + 1 - l.behind
