use Rattle.std.proofs.Common.{true, ◌≡◌, ◌-◌, ◌≤◌, length, drop}
use Rattle.policy.specs.Effect.{no_effects}
use Rattle.policy.specs.declared.line.Part.{Part}
use Rattle.word.specs.Chunk.{words_in}
use Rattle.operation.specs.Whole.{whole_lines}
use Rattle.run.proofs.TriggerLaws.{effects_in}
use Rattle.run.proofs.triggers.reserved.Given as goal

abbrev pub invariant-loop-at : goal.invariant-loop-at
invariant-loop-at l = record {
  inside : l.at ≤ length l.words;
  whole : whole_lines Part.Rules (drop l.at (words_in l.words)) ≡ true;
  same : effects_in l.effects (drop l.at (words_in l.words)) ≡ effects_in no_effects (words_in l.words);
}

abbrev pub decreases-loop-at : goal.decreases-loop-at
decreases-loop-at l = length l.words - l.at
