use Rattle.std.proofs.Common.{arith}
use Rattle.std.proofs.lemmas.Result.{IfErr-weaker, on_ok_weaker}
use Rattle.stream.proofs.ConversationLaws.{begins, goes_on, write_fails, read_fails, answers_all, last_fails}
use Rattle.stream.proofs.conversation.converse.Goals as goal

pub loop-turn-init : goal.loop-turn-init
loop-turn-init g c = begins g.M.Machine.given g.M.Machine.printed _ _ c.requires.empty

pub loop-turn-preserved : goal.loop-turn-preserved
loop-turn-preserved g c = grind (arith, goes_on)

pub returns-in-Err-clause-err : goal.returns-in-Err-clause-err
returns-in-Err-clause-err g c = read_fails g.M.Machine.given g.M.Machine.printed c.loop-turn.invariant c.in-Err.e c.in-Err.ensures.err

pub returns-in-Err-answer-clause-err : goal.returns-in-Err-answer-clause-err
returns-in-Err-answer-clause-err g c =
    let (text, sent, owed, front) = c.in-Err-answer.ensures.err in
    write_fails g.M.Machine.given g.M.Machine.printed c.loop-turn.invariant c.in-Err-answer.e text c.in-Ok.ensures.ok (omega (arith, c.in-Ok.ensures.bound.1)) c.in-Err-answer.ensures.some sent owed front

pub returns-then-size-eq0-clause-ok : goal.returns-then-size-eq0-clause-ok
returns-then-size-eq0-clause-ok g c =
    let none = c.if-size-eq0.true in
    let end = c.in-Ok.ensures.end none (omega arith) in
    on_ok_weaker c.conclude.result (answers_all g.M.Machine.given g.M.Machine.printed c.loop-turn.invariant _ _ none c.in-Ok.ensures.ok end) c.conclude.ensures.ok

pub returns-then-size-eq0-clause-err : goal.returns-then-size-eq0-clause-err
returns-then-size-eq0-clause-err g c =
    let none = c.if-size-eq0.true in
    let end = c.in-Ok.ensures.end none (omega arith) in
    IfErr-weaker c.conclude.result _ _ (last_fails g.M.Machine.given g.M.Machine.printed c.loop-turn.invariant _ _ none c.in-Ok.ensures.ok end) c.conclude.ensures.err
