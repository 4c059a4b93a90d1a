use Rattle.std.proofs.Common.{ℕ, ◌+◌, ◌%◌, ◌≡◌, true, false, refl, sym, ap, ◌∙◌, arith, rules, w64}
use Rattle.std.proofs.lemmas.Bool.{not-true, not-false}
use Rattle.std.specs.Int.{trailing_zeros}
use Rattle.policy.specs.Set.{ActionSet, insert, set_of}
use Rattle.word.specs.Chunk.{words_in}
use Rattle.word.proofs.ChunkLaws.{words_in_length}
use Rattle.monitor.specs.Decision.{kept_by, tried_words}
use Rattle.monitor.proofs.FewLaws.{trial_few}
use Rattle.monitor.proofs.TrialLaws.{tried_none, next_candidate, trial_turn, tried_all}
use Rattle.monitor.proofs.actions.resolve.Goals as goal
use Rattle.monitor.proofs.actions.resolve.Goals.{then-not-trial, else-not-trial}

pub loop-left-init : goal.loop-left-init
loop-left-init c = tried_none (search rules) (trial_few (words_in c.args.constraints.now) (omega (arith, words_in_length c.args.constraints.now, c.requires.few)) _)

pub overflow_add-words : goal.overflow_add-words
overflow_add-words c = omega (arith, c.run_constraints-trial.ensures.words, c.loop-left.invariant.cheap c.insert-more.result.bits)

pub loop-left-preserved : goal.loop-left-preserved
loop-left-preserved c =
    let bits : ActionSet → ℕ = λ s. s.bits in
    let next = next_candidate c.loop-left.invariant c.loop-left-test.true in
    let under : (c.loop-left.n + trailing_zeros w64 c.loop-left.left) % 64 ≡ c.loop-left.n + trailing_zeros w64 c.loop-left.left = omega (arith, next.room) in
    let more : c.insert-more.result ≡ set_of (insert c.loop-left.kept.bits (c.loop-left.n + trailing_zeros w64 c.loop-left.left)) = rw under at c.insert-more.ensures in
    elim c.if-not-trial.branch [
      | then-not-trial w ↦ trial_turn next false (sym (not-true _ w.if-not-trial.true) ∙ rw more at c.run_constraints-trial.ensures.conflict) (rw more at c.run_constraints-trial.ensures.words) (ap bits (w.kept-is ∙ more)) refl
      | else-not-trial w ↦ trial_turn next true (sym (not-false _ w.if-not-trial.false) ∙ rw more at c.run_constraints-trial.ensures.conflict) (rw more at c.run_constraints-trial.ensures.words) (ap bits w.kept-is) refl
    ]

pub returns : goal.returns
unfolding kept_by tried_words
returns c = let all = tried_all c.loop-left.invariant c.loop-left-test.false in record { actions = ap set_of all.0; words = all.1 }
