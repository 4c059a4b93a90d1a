-- What is claimed of constants in hexadecimal digits.
use Rattle.std.specs.Prelude.{ℕ, ◌≤◌, true, List, ◌++◌, ◌≡◌, ℤ, length}
use Rattle.std.specs.Int.{w32, cast_unsigned}
use Rattle.policy.specs.Limits.{is_reading_value}
use Rattle.std.specs.List.{list_all}
use Rattle.lexer.specs.Byte.{bytes, is_hex_digit}
use Rattle.lexer.specs.Number.{pattern_digits}

-- `0x` and digits
abbrev pub prefixed : List ℕ → List ℕ
prefixed ds = bytes "0x" ++ ds

-- one to eight hexadecimal digits
pub record IsPattern (ds : List ℕ) : Type 0 where
  pub digits : list_all is_hex_digit ds ≡ true
  pub some_digit : 1 ≤ length ds
  pub few : length ds ≤ pattern_digits

-- a value of a reading, and its word of 32 bits in two's complement
pub record HasWord (k : ℤ) (w : ℕ) : Type 0 where
  pub value : is_reading_value k ≡ true
  pub word : cast_unsigned w32 k ≡ w

-- a token that is `0x` and one or more hexadecimal digits
pub record Hexadecimal (t : List ℕ) : Type 0 where
  pub digits : List ℕ
  pub token : t ≡ prefixed digits
  pub hexadecimal : list_all is_hex_digit digits ≡ true
  pub some_digit : 1 ≤ length digits
