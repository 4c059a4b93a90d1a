use Rattle.std.proofs.Common.{◌∙◌, arith}
use Rattle.std.proofs.lemmas.Grind.{common_steps}
use Rattle.lexer.proofs.HexLaws.{hex_past}
use Rattle.lexer.proofs.hex.hex_digits.Goals as goal

pub loop-rest-preserved : goal.loop-rest-preserved
loop-rest-preserved c = record {
  value = hex_past c.loop-rest.rest.now _ _ c.in-len1-up.len_at_least c.hex_value-digit.ensures c.if-digit-ge-BASE.false ∙ c.loop-rest.invariant.value;
  behind = grind (arith, common_steps);
  fits = omega arith;
}
