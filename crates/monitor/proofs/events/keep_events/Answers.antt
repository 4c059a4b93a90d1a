use Rattle.std.proofs.Common.{true, false, arith, rules}
use Rattle.std.proofs.lemmas.Bool.{not-true, not-false}
use Rattle.policy.specs.declared.line.Part.{Part}
use Rattle.word.proofs.ChunkLaws.{words_in_length}
use Rattle.monitor.proofs.TrialLaws.{next_candidate}
use Rattle.monitor.proofs.EventLaws.{kept_none, event_turn, all_tried}
use Rattle.monitor.proofs.events.keep_events.Goals as goal
use Rattle.monitor.proofs.events.keep_events.Goals.{then-not-trial, else-not-trial}

pub loop-left-init : goal.loop-left-init
loop-left-init c =
    kept_none (omega (arith, words_in_length c.args.image.now.parts.rules.now, c.args.image.now.few Part.Rules)) (omega (arith, words_in_length c.args.image.now.parts.constraints.now, c.args.image.now.few Part.Constraints))
    c.requires.first (search rules)

pub overflow_add-words : goal.overflow_add-words
overflow_add-words c = grind arith

pub loop-left-preserved : goal.loop-left-preserved
loop-left-preserved c =
    let next = next_candidate c.loop-left.invariant.tried c.loop-left-test.true in
    elim c.if-not-trial.branch [
      | then-not-trial w ↦ event_turn c.loop-left.invariant.yields next c.insert-more.ensures c.keeping.ensures c.try_events-trial.ensures false (not-true _ w.if-not-trial.true) w.kept-is w.effects-is
      | else-not-trial w ↦ event_turn c.loop-left.invariant.yields next c.insert-more.ensures c.keeping.ensures c.try_events-trial.ensures true (not-false _ w.if-not-trial.false) w.kept-is w.effects-is
    ]

pub overflow_add-result : goal.overflow_add-result
overflow_add-result c = grind arith

pub returns : goal.returns
returns c = all_tried c.loop-left.invariant c.loop-left-test.false c.requires.first
