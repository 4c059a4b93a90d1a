use Rattle.policy.specs.Epoch.{viewed}
use Rattle.std.proofs.Common.{ℕ, ◌+◌, ◌-◌, ap, arith}
use Rattle.std.proofs.lemmas.Bool.{not-true, not-false}
use Rattle.word.specs.Chunk.{words_in}
use Rattle.word.proofs.ChunkLaws.{words_in_length}
use Rattle.run.specs.Run.{run_constraints, trial_fetches}
use Rattle.run.proofs.TestLaws.{tested_past}
use Rattle.run.proofs.RunLaws.{constant_within}
use Rattle.run.proofs.ConstraintLaws.{member_tested, test_held, test_failed, Answers, answers_past, answers_end}
use Rattle.run.proofs.constraints.run_constraints.Goals as goal
use Rattle.run.proofs.constraints.run_constraints.Goals.{else-constraints-test, then-constraints-test+then-action-gt63+in_default}

pub constraints-preserved-then-not-has : goal.constraints-preserved-then-not-has
constraints-preserved-then-not-has c =
    let l = words_in_length c.args.words.now in
    let member = c.first_if-action.ensures.only (omega (arith, c.if-action-gt63.false)) in
    record {
      onward = omega arith;
      begins = test_failed c.loop-word.invariant.begins (omega (arith, c.loop-word.invariant.within)) c.nth_word-word.ensures (member_tested _ _ _ _ _ member (c.first_if-action.ensures.first member) c.has.ensures) c.if-not-has.true
          (ap (λ (n : ℕ). c.loop-word.behind + 1 + n) c.skip.ensures) (ap (λ (n : ℕ). c.loop-word.from + n) c.skip-then-not-has.ensures);
    }

pub loop-word-preserved : goal.loop-word-preserved
loop-word-preserved c =
    let l = words_in_length c.args.words.now in
    let member = c.first_if-action.ensures.only (omega (arith, c.if-action-gt63.false)) in
    let on = test_held c.loop-word.invariant.begins (omega (arith, c.loop-word.invariant.within)) c.nth_word-word.ensures (member_tested _ _ _ _ _ member (c.first_if-action.ensures.first member) c.has.ensures) c.if-not-has.false in
    record { onward = omega (arith, c.loop-word.invariant.onward); within = omega (arith, on.1); begins = on.0 }

pub test_constraint-requires : goal.test_constraint-requires
test_constraint-requires c o =
    let l = words_in_length c.args.words.now in
    omega (arith, constant_within c.loop-test.invariant.begins.next c.loop-test.invariant.begins.lines (omega (arith, c.loop-test.invariant.within)) c.nth_word-word-in-loop-test.ensures o)

pub constraints-preserved : goal.constraints-preserved
constraints-preserved c = grind (arith, words_in_length, test_failed, not-true)

pub loop-test-preserved : goal.loop-test-preserved
loop-test-preserved c =
    let l = words_in_length c.args.words.now in
    let on = test_held c.loop-test.invariant.begins (omega (arith, c.loop-test.invariant.within)) c.nth_word-word-in-loop-test.ensures c.in-Some.ensures (not-false _ c.if-not-test.false) in
    record { onward = omega (arith, c.loop-test.invariant.onward, tested_past c.in-Some.test _ _ _ c.in-Some.ensures.is); within = omega (arith, on.1); begins = on.0 }

pub returns : goal.returns
unfolding run_constraints trial_fetches
returns c =
    let left : Answers (viewed c.view-view.result) c.args.set (words_in c.args.words.now) (c.constraints-test.behind - 1) c.constraints-test.from = elim c.constraints-test.branch [
      | else-constraints-test w ↦ rw (w.behind-is, w.from-is) (answers_past c.constraints.invariant.begins (omega (arith, w.constraints-test.false, words_in_length c.args.words.now)))
      | then-constraints-test+then-action-gt63+in_default w ↦ rw (w.behind-is, w.from-is) (answers_end w.loop-test.invariant.begins (omega (arith, w.loop-test.invariant.within, words_in_length c.args.words.now)) w.nth_word-word-in-loop-test.ensures w.in_default.ensures)
    ] in
    rw (c.left_at.ensures, ← c.view-view.ensures) (record { conflict = left.conflict; words = left.words })
