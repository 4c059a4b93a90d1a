use Rattle.std.proofs.Common.{ℕ, ◌++◌, take, ap, sym, ◌∙◌, arith}
use Rattle.session.proofs.EpochLaws.{last_none, last_some}
use Rattle.session.proofs.PhaseLaws.{end_kept}
use Rattle.session.proofs.TextLaws.{end_run}
use Rattle.session.proofs.engine.EngineLineMachine.end.Goals as goal

pub returns-in-None : goal.returns-in-None
returns-in-None g c =
    let s = c.args.self.now in
    let kept = c.keep-self.ensures.value ∙ ap (λ (k : ℕ). take k (take s.count s.text ++ c.args.last.now)) s.text_long in
    rw (c.in-Text.is, ← end_kept (take s.count s.text) c.args.last.now _ (sym c.pick_mode.ensures ∙ c.in-None.is) kept)
    (record { puts = c.end_text.ensures.puts; short = omega (arith, c.end_text.ensures.short) })

pub returns-in-Some : goal.returns-in-Some
returns-in-Some g c = grind (arith, end_run)

pub returns-then-last-gt0 : goal.returns-then-last-gt0
returns-then-last-gt0 g c = grind (arith, last_some)

pub returns-else-last-gt0 : goal.returns-else-last-gt0
returns-else-last-gt0 g c = grind (arith, last_none)
