use Rattle.std.proofs.Common.{arith}
use Rattle.syntax.proofs.WalkLaws.{advanced}
use Rattle.codegen.proofs.PutLaws.{putting_none, putting_near, putting_all, putting_take}
use Rattle.codegen.proofs.put_lines.Goals as goal

pub loop-out-init : goal.loop-out-init
loop-out-init c = putting_none c.new-lines.ensures

pub put_next-cursors-requires : goal.put_next-cursors-requires
put_next-cursors-requires c =
    let w = advanced c.loop-out.lines c.advance.new.self c.in-Ok-Some.field-0-0.now (rw c.in-Ok-Some.field-0-is at c.in-Ok-Some.ensures.answer) c.advance.ensures.line c.advance.ensures.ahead in
    record { near = putting_near c.loop-out.invariant c.requires.near c.requires.short; short = (putting_take c.loop-out.invariant w c.line.ensures).0 }

pub loop-out-preserved : goal.loop-out-preserved
loop-out-preserved c =
    let w = advanced c.loop-out.lines c.advance.new.self c.in-Ok-Some.field-0-0.now (rw c.in-Ok-Some.field-0-is at c.in-Ok-Some.ensures.answer) c.advance.ensures.line c.advance.ensures.ahead in
    (putting_take c.loop-out.invariant w c.line.ensures).1 _ _ c.put_next-cursors.ensures.answer c.put_next-cursors.ensures.buffer

pub returns-in_default : goal.returns-in_default
returns-in_default c = grind (arith, putting_all)

pub returns-in_default-2 : goal.returns-in_default-2
returns-in_default-2 c = grind (arith, putting_all)
