use Rattle.std.proofs.Common.{refl, arith, rules}
use Rattle.std.proofs.lemmas.Result.{IfErr-weaker, on_ok_weaker}
use Rattle.stream.specs.Machine.{nothing_due}
use Rattle.stream.proofs.ConversationLaws.{begins, goes_on, read_fails, answers_all, last_fails, listing_ends}
use Rattle.stream.proofs.summary.summarize.Goals as goal

pub loop-turn-init : goal.loop-turn-init
loop-turn-init g c = begins (λ s. nothing_due) g.S.Summary.printed _ _ refl

pub loop-turn-preserved : goal.loop-turn-preserved
loop-turn-preserved g c =
    goes_on (λ s. nothing_due) g.S.Summary.printed c.loop-turn.invariant _ c.in-Ok.ensures.ok (omega (arith, c.in-Ok.ensures.bound.1))
    (record { at_once = λ rest. refl; in_all = c.feed.ensures }) (search (rules, arith))

pub returns-in-Err-clause-err : goal.returns-in-Err-clause-err
returns-in-Err-clause-err g c = read_fails (λ s. nothing_due) g.S.Summary.printed c.loop-turn.invariant c.in-Err.e c.in-Err.ensures.err

pub returns-then-size-eq0-clause-ok : goal.returns-then-size-eq0-clause-ok
returns-then-size-eq0-clause-ok g c =
    let none = c.if-size-eq0.true in
    let end = c.in-Ok.ensures.end none (omega arith) in
    on_ok_weaker c.print.result (answers_all (λ s. nothing_due) g.S.Summary.printed c.loop-turn.invariant _ _ none c.in-Ok.ensures.ok end) c.print.ensures.ok

pub returns-then-size-eq0-clause-err : goal.returns-then-size-eq0-clause-err
returns-then-size-eq0-clause-err g c =
    let none = c.if-size-eq0.true in
    let end = c.in-Ok.ensures.end none (omega arith) in
    let fails = last_fails (λ s. nothing_due) g.S.Summary.printed c.loop-turn.invariant _ _ none c.in-Ok.ensures.ok end in
    IfErr-weaker c.print.result _ _ (λ e w. listing_ends e _ _ _ (fails e w)) c.print.ensures.err
