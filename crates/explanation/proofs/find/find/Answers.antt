use Rattle.std.proofs.Common.{Ok, None, ◌≡◌, sym, ◌∙◌, arith}
use Rattle.syntax.proofs.WalkLaws.{advanced}
use Rattle.explanation.proofs.FindLaws.{seeking_none, seeking_all, seeking_judge}
use Rattle.explanation.proofs.find.find.Goals as goal
use Rattle.explanation.proofs.find.find.Goals.{in_default, in_default-2}

pub loop-here-init : goal.loop-here-init
loop-here-init c = seeking_none c.new-lines.ensures

pub told-requires : goal.told-requires
told-requires c =
    let w = advanced c.loop-here.lines c.advance.new.self c.in-Ok-Some.here.now (rw c.in-Ok-Some.field-0-is at c.in-Ok-Some.ensures.answer) c.advance.ensures.line c.advance.ensures.ahead in
    (seeking_judge c.loop-here.invariant w c.line.ensures).writable

pub overflow_sub-text : goal.overflow_sub-text
overflow_sub-text c =
    let w = advanced c.loop-here.lines c.advance.new.self c.in-Ok-Some.here.now (rw c.in-Ok-Some.field-0-is at c.in-Ok-Some.ensures.answer) c.advance.ensures.line c.advance.ensures.ahead in
    (seeking_judge c.loop-here.invariant w c.line.ensures).short

pub excerpt_at-requires : goal.excerpt_at-requires
excerpt_at-requires c =
    let w = advanced c.loop-here.lines c.advance.new.self c.in-Ok-Some.here.now (rw c.in-Ok-Some.field-0-is at c.in-Ok-Some.ensures.answer) c.advance.ensures.line c.advance.ensures.ahead in
    let known = c.well_formed in
    omega (arith, (seeking_judge c.loop-here.invariant w c.line.ensures).short)

pub returns-then-told : goal.returns-then-told
returns-then-told c =
    let w = advanced c.loop-here.lines c.advance.new.self c.in-Ok-Some.here.now (rw c.in-Ok-Some.field-0-is at c.in-Ok-Some.ensures.answer) c.advance.ensures.line c.advance.ensures.ahead in
    (seeking_judge c.loop-here.invariant w c.line.ensures).hit (sym c.if-told.true ∙ c.told.ensures) _ c.excerpt_at.ensures

pub loop-here-preserved : goal.loop-here-preserved
loop-here-preserved c =
    let w = advanced c.loop-here.lines c.advance.new.self c.in-Ok-Some.here.now (rw c.in-Ok-Some.field-0-is at c.in-Ok-Some.ensures.answer) c.advance.ensures.line c.advance.ensures.ahead in
    (seeking_judge c.loop-here.invariant w c.line.ensures).miss (sym c.if-told.false ∙ c.told.ensures)

pub returns : goal.returns
returns c =
    elim c.match-advance.branch [
      | in_default w ↦
          let n : c.advance.result ≡ Ok None = grind arith in
          let e = rw n at c.advance.ensures.answer in
          seeking_all c.loop-here.invariant (λ here q. cc (e, q))
      | in_default-2 w ↦
          let e = rw w.in_default.is at c.advance.ensures.answer in
          seeking_all c.loop-here.invariant (λ here q. cc (e, q))
    ]
