use Rattle.std.proofs.Common.{◌≤◌, ◌≡◌, length}
use Rattle.lexer.specs.Byte.{is_digit}
use Rattle.lexer.specs.Number.{decimal_from}
use Rattle.lexer.specs.Steps.Scan.{clip, clip_limit}
use Rattle.lexer.specs.Lines.{take_leading, drop_leading}
use Rattle.lexer.proofs.scan.further_digits.Given as goal

abbrev pub invariant-loop-rest : goal.invariant-loop-rest
invariant-loop-rest l = record {
  value : clip (decimal_from l.value (take_leading is_digit l.rest)) ≡ clip (decimal_from l.from (take_leading is_digit l.text));
  behind : drop_leading is_digit l.rest ≡ drop_leading is_digit l.text;
  clipped : l.value ≤ clip_limit;
}

abbrev pub decreases-loop-rest : goal.decreases-loop-rest
decreases-loop-rest l = length l.rest
