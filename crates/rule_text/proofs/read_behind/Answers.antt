use Rattle.std.proofs.Common.{◌≡◌, sym, ◌∙◌, arith, Ok}
use Rattle.syntax.proofs.WalkLaws.{Advanced, advanced}
use Rattle.rule_text.proofs.TextLaws.{count_turn}
use Rattle.rule_text.proofs.read_behind.Goals as goal

pub loop-lines-preserved : goal.loop-lines-preserved
loop-lines-preserved c =
    let goes : Advanced c.loop-lines.lines c.advance.new.self c.in-Some.field-0.now = advanced _ _ _ (rw c.in-Some.is at c.in_ok-advance.ensures.answer) c.advance.ensures.line c.advance.ensures.ahead in
    let tallies : c.tallied.result ≡ Ok c.in_ok-counts.counts = grind arith in
    let t = count_turn _ _ _ _ goes _ c.line.ensures _ (sym tallies ∙ c.tallied.ensures) in
    record { same = sym t.0 ∙ c.loop-lines.invariant.same; small = t.1 c.loop-lines.invariant.small }
