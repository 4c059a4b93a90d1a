use Rattle.std.proofs.Common.{refl, sym, ◌∙◌, arith}
use Rattle.std.proofs.lemmas.Bool.{not-true, not-false}
use Rattle.word.proofs.ChunkLaws.{words_in_length}
use Rattle.run.proofs.WaitLaws.{line_within, constant_within, member_on, member_lacks, holds_here, test_on, test_fails}
use Rattle.run.proofs.reach.reach.Goals as goal

pub nth_word-word-requires : goal.nth_word-word-requires
nth_word-word-requires c = omega (arith, words_in_length c.args.words.now, line_within c.loop-at.invariant.line)

pub returns-then-not-has : goal.returns-then-not-has
returns-then-not-has c =
    let m = c.first_if-action.ensures.only c.if-action-lt64.true in
    member_lacks c.loop-at.invariant c.nth_word-word.ensures m _ (c.first_if-action.ensures.first m) (sym c.has.ensures ∙ c.if-not-has.true) _ refl

pub loop-at-preserved-else-not-has : goal.loop-at-preserved-else-not-has
loop-at-preserved-else-not-has c =
    let m = c.first_if-action.ensures.only c.if-action-lt64.true in
    member_on c.loop-at.invariant c.nth_word-word.ensures m _ (c.first_if-action.ensures.first m) (sym c.has.ensures ∙ c.if-not-has.false)

pub test_constraint-requires : goal.test_constraint-requires
test_constraint-requires c o = omega (arith, words_in_length c.args.words.now, constant_within c.loop-at.invariant c.nth_word-word.ensures o)

pub returns-in_default : goal.returns-in_default
returns-in_default c = holds_here c.loop-at.invariant c.nth_word-word.ensures c.in_default.ensures _ refl

pub returns-then-not-test : goal.returns-then-not-test
returns-then-not-test c =
    test_fails c.loop-at.invariant c.nth_word-word.ensures (λ m. omega (arith, c.first_if-action.ensures.first m)) _ c.in-Some.ensures (not-true _ c.if-not-test.true) _ refl

pub loop-at-preserved : goal.loop-at-preserved
loop-at-preserved c =
    test_on c.loop-at.invariant c.nth_word-word.ensures (λ m. omega (arith, c.first_if-action.ensures.first m)) _ c.in-Some.ensures (not-false _ c.if-not-test.false)
