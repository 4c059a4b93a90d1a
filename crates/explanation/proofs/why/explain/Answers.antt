use Rattle.std.proofs.Common.{◌≡◌, refl, Err, arith}
use Rattle.explanation.proofs.WhyLaws.{explains_refusal, explains_image}
use Rattle.explanation.proofs.why.explain.Goals as goal

pub returns-in_err-size : goal.returns-in_err-size
returns-in_err-size c =
    let r : c.from_residual.result ≡ Err c.in_err-size.field-0.0 = grind arith in
    rw r (explains_refusal _ _ _ _ _ _ _ _ c.compile_texts.ensures.answer c.compile_texts.ensures.buffer refl _ c.in_err-size.was)

pub returns : goal.returns
returns c =
    explains_image _ _ _ _ _ _ _ _ c.compile_texts.ensures.answer c.compile_texts.ensures.buffer refl _ c.in_ok-size.was _ c.explain_on.ensures
