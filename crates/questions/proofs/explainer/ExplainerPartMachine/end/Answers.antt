use Rattle.std.proofs.Common.{◌≤◌, ap, sym, subst, refl, append-nil, ◌∙◌, length, take, arith}
use Rattle.output.specs.Sink.{fed}
use Rattle.questions.specs.Steps.Left.{answers_from}
use Rattle.questions.specs.Steps.Sizes.{answer_size}
use Rattle.questions.proofs.LeftLaws.{last_told}
use Rattle.questions.proofs.explainer.ExplainerPartMachine.end.Goals as goal

pub returns-then-is_begun : goal.returns-then-is_begun
unfolding answers_from
returns-then-is_begun g c =
    let e = c.args.self.now in
    let same = last_told e.maker.now e.site.now e.number e.at.names (take e.at.size e.held) _ _ (sym c.if-is_begun.true ∙ c.is_begun.ensures) (append-nil _) in
    record { puts = c.end_line.ensures.puts ∙ ap (fed g.S.Sink.taken c.args.sink.now) same; short = subst (λ l. length l ≤ answer_size) same c.end_line.ensures.short }

pub returns-else-is_begun : goal.returns-else-is_begun
unfolding answers_from
returns-else-is_begun g c =
    let e = c.args.self.now in
    let same = last_told e.maker.now e.site.now e.number e.at.names (take e.at.size e.held) _ _ (sym c.if-is_begun.false ∙ c.is_begun.ensures) refl in
    record { puts = sym (g.met.S.Sink.none c.args.sink.now) ∙ ap (fed g.S.Sink.taken c.args.sink.now) same; short = subst (λ l. length l ≤ answer_size) same (omega arith) }
