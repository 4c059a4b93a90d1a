use Rattle.std.proofs.Common.{sym, ◌∙◌, arith}
use Rattle.std.proofs.lemmas.Grind.{common_steps}
use Rattle.lexer.proofs.DigitLaws.{digits_past}
use Rattle.lexer.proofs.scan.further_digits.Goals as goal

pub loop-rest-preserved : goal.loop-rest-preserved
loop-rest-preserved c = record {
  value = digits_past c.loop-rest.rest.now _ _ c.in-len1-up.len_at_least (sym c.is_digit.ensures ∙ c.if-not-is_digit.false) c.shifted-value.ensures ∙ c.loop-rest.invariant.value;
  behind = grind (arith, common_steps);
  clipped = omega arith;
}
