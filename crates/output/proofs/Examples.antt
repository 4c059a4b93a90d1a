-- Each row of the table of examples is computed.
use Rattle.std.proofs.Common.{map, ◌≡◌, refl}
use Rattle.output.specs.Examples.{examples, computed_digits, expected}
use Rattle.output.specs.Number.{digits, decimal, hex_digit, hex_digits}

pub numbers_hold : map computed_digits examples ≡ map expected examples
unfolding examples computed_digits expected digits decimal hex_digit hex_digits
numbers_hold = refl
