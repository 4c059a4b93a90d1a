use Rattle.std.proofs.Common.{◌∙◌, refl, ne_eqb, arith}
use Rattle.explanation.proofs.TrimLaws.{one_more}
use Rattle.explanation.proofs.find.trimmed_length.Goals as goal

pub loop-rest-preserved-then-b-ne32 : goal.loop-rest-preserved-then-b-ne32
loop-rest-preserved-then-b-ne32 c = record {
  same = c.loop-rest.invariant.same ∙ one_more c.loop-rest.rest.now _ _ c.in-len1-up.len_at_least c.if-b-eq10.false ∙ rw (ne_eqb _ 32 c.if-b-ne32.true) refl;
  inside = grind arith;
}
