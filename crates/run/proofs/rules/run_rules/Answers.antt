use Rattle.std.proofs.Common.{refl, arith}
use Rattle.std.proofs.lemmas.Bool.{not-true, not-false}
use Rattle.word.proofs.ChunkLaws.{words_in_length}
use Rattle.operation.proofs.WholeLaws.{whole_on_lines}
use Rattle.run.specs.Run.{run_rules, rule_fetches}
use Rattle.run.proofs.RunLaws.{constant_within}
use Rattle.run.proofs.RuleLaws.{rules_held, rules_failed, rules_pass, rules_end, rules_end_fetch}
use Rattle.run.proofs.TestLaws.{tested_past}
use Rattle.run.proofs.rules.run_rules.Goals as goal

pub loop-behind-init : goal.loop-behind-init
loop-behind-init c = record { at = 0; next = omega arith; lines = whole_on_lines _ _ c.requires.whole; effects = refl; fetched = omega arith; words = refl }

pub test_rule-requires : goal.test_rule-requires
test_rule-requires c o =
    let l = words_in_length c.args.words.now in
    omega (arith, constant_within c.loop-test.invariant.running.next c.loop-test.invariant.running.lines (omega (arith, c.loop-test.invariant.within)) c.nth_word-word.ensures o)

pub loop-behind-preserved-in_default : goal.loop-behind-preserved-in_default
loop-behind-preserved-in_default c = grind (arith, words_in_length, rules_pass)

pub loop-behind-preserved : goal.loop-behind-preserved
loop-behind-preserved c = grind (arith, words_in_length, rules_failed, not-true)

pub loop-test-preserved : goal.loop-test-preserved
loop-test-preserved c =
    let l = words_in_length c.args.words.now in
    let held = rules_held c.loop-test.invariant.running (omega (arith, c.loop-test.invariant.within)) c.nth_word-word.ensures c.in-Some.ensures (not-false _ c.if-not-test.false) in
    record { onward = omega (arith, c.loop-test.invariant.onward, tested_past c.in-Some.test _ _ _ c.in-Some.ensures.is); within = omega (arith, held.1); running = held.0 }

pub returns : goal.returns
unfolding run_rules rule_fetches
returns c = grind (arith, words_in_length, rules_end, rules_end_fetch)
