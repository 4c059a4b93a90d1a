-- Numbers and the characters that they are written by, one row each.
use Prim.Native.String.{String}
use Rattle.std.specs.Prelude.{ℕ, codes, List, [], ◌∷◌}
use Rattle.output.specs.Number.{decimal, hex_word}

pub record Example : Type 0 where
  pub number : List ℕ
  pub characters : String

abbrev row : List ℕ → String → Example
row number characters = record { number = number; characters = characters }

unfoldable pub examples : List Example
examples =
    row (decimal 0) "0"
    ∷ row (decimal 9) "9"
    ∷ row (decimal 10) "10"
    ∷ row (decimal 100) "100"
    ∷ row (decimal 4294967295) "4294967295"
    ∷ row (decimal 18446744073709551615) "18446744073709551615"
    ∷ row (hex_word 0) "00000000"
    ∷ row (hex_word 40) "00000028"
    ∷ row (hex_word 19088743) "01234567"
    ∷ row (hex_word 2309737967) "89ABCDEF"
    ∷ row (hex_word 4294967295) "FFFFFFFF"
    ∷ []

unfoldable pub computed_digits : Example → List ℕ
computed_digits x = x.number

unfoldable pub expected : Example → List ℕ
expected x = codes x.characters
