use Rattle.std.proofs.Common.{sym, ap, ◌∙◌, arith, rules, Ok}
use Rattle.codegen.proofs.AcceptedLaws.{accepted_texts}
use Rattle.codegen.proofs.CompileLaws.{compiled_short, compiled_image}
use Rattle.codegen.proofs.compile_texts.Goals as goal

pub words-rule_words-requires : goal.words-rule_words-requires
words-rule_words-requires c =
    let t = accepted_texts _ _ _ _ (sym c.is_known_form.ensures ∙ c.if-not-is_known_form.false) (sym c.in_ok-counts.ensures) in
    omega (arith, t.rule_limit_is)

pub words-constraint_words-requires : goal.words-constraint_words-requires
words-constraint_words-requires c =
    let t = accepted_texts _ _ _ _ (sym c.is_known_form.ensures ∙ c.if-not-is_known_form.false) (sym c.in_ok-counts.ensures) in
    omega (arith, t.constraint_limit_is)

pub image_size-size-requires : goal.image_size-size-requires
image_size-size-requires c =
    let t = accepted_texts _ _ _ _ (sym c.is_known_form.ensures ∙ c.if-not-is_known_form.false) (sym c.in_ok-counts.ensures) in
    record { rules = omega (arith, t.rule_limit_is); constraints = omega (arith, t.constraint_limit_is) }

pub returns-then-out-size : goal.returns-then-out-size
returns-then-out-size c =
    let t = accepted_texts _ _ _ _ (sym c.is_known_form.ensures ∙ c.if-not-is_known_form.false) (sym c.in_ok-counts.ensures) in
    let r = compiled_short t _ c.words-rule_words.ensures c.words-constraint_words.ensures c.at-then-out-size.ensures (omega (arith, c.image_size-size.ensures)) in
    record { answer = r.0; buffer = r.1; within = search rules }

pub put_image-requires : goal.put_image-requires
put_image-requires c =
    let t = accepted_texts _ _ _ _ (sym c.is_known_form.ensures ∙ c.if-not-is_known_form.false) (sym c.in_ok-counts.ensures) in
    record { maker = t.maker_short; site = t.site_short; rules = omega (arith, t.rule_limit_is); constraints = omega (arith, t.constraint_limit_is) }

pub returns : goal.returns
returns c =
    let t = accepted_texts _ _ _ _ (sym c.is_known_form.ensures ∙ c.if-not-is_known_form.false) (sym c.in_ok-counts.ensures) in
    let r = compiled_image t _ c.words-rule_words.ensures c.words-constraint_words.ensures (omega (arith, c.image_size-size.ensures)) c.put_image.ensures in
    record { answer = ap Ok c.image_size-size.ensures ∙ r.0; buffer = r.1; within = search rules }
