use Rattle.std.proofs.Common.{◌%◌, ◌^◌, ◌<◌, ◌≡◌, length}
use Rattle.lexer.specs.Byte.{is_hex_digit}
use Rattle.lexer.proofs.HexLaws.{hex_from}
use Rattle.lexer.specs.Lines.{take_leading, drop_leading}
use Rattle.lexer.proofs.hex.hex_digits.Given as goal

abbrev pub invariant-loop-rest : goal.invariant-loop-rest
invariant-loop-rest l = record {
  value : hex_from l.value (take_leading is_hex_digit l.rest) % 2 ^ 32 ≡ hex_from 0 (take_leading is_hex_digit l.text) % 2 ^ 32;
  behind : drop_leading is_hex_digit l.rest ≡ drop_leading is_hex_digit l.text;
  fits : l.value < 2 ^ 32;
}

abbrev pub decreases-loop-rest : goal.decreases-loop-rest
decreases-loop-rest l = length l.rest
