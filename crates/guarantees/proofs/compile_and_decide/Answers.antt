use Rattle.std.proofs.Common.{◌≡◌, refl, sym, arith, Err}
use Rattle.guarantees.proofs.Together.{together_decided, together_refused}
use Rattle.guarantees.proofs.compile_and_decide.Goals as goal

pub returns-in_err-size-clause-err : goal.returns-in_err-size-clause-err
returns-in_err-size-clause-err c =
    let r : c.from_residual.result ≡ Err c.in_err-size.field-0.0 = grind arith in
    rw r (together_refused _ _ _ _ refl _ (sym c.in_err-size.ensures.answer), refl)

pub returns-clause-ok : goal.returns-clause-ok
returns-clause-ok c = together_decided _ _ _ _ _ _ c.in_ok-size.ensures.answer c.in_ok-size.ensures.buffer refl _ _ _ c.decide_lines.ensures
