-- Numbers and constants, of any length.
use Rattle.std.specs.Str.{byte}
use Rattle.std.specs.Prelude.{ℕ, suc, ◌+◌, ◌*◌, ◌-◌, Bool, true, false, not, ◌&&◌, ◌||◌, ℤ, pos, negsuc, length, List, [], ◌∷◌, fold, Option, Some, None, option_map, ◌==◌, nat_le, if◌then◌else◌}
use Rattle.std.specs.Option.{option_or}
use Rattle.std.specs.Int.{w32, cast_signed}
use Rattle.std.specs.List.{list_all}
use Rattle.lexer.specs.Byte.{is_digit, hex_value, is_hex_digit}

-- the value of digits, after the value of those before them
unfoldable pub decimal_from : ℕ → List ℕ → ℕ
decimal_from v [] = v
decimal_from v (d ∷ ds) = decimal_from (v * 10 + (d - byte "0")) ds

abbrev pub is_empty : List ℕ → Bool
is_empty [] = true
is_empty (b ∷ bs) = false

-- a number is `0`, or digits that do not start with 0
unfoldable pub number_of : List ℕ → Option ℕ
number_of [] = None
number_of (d ∷ ds) = if list_all is_digit (d ∷ ds) && (is_empty ds || not (d == byte "0")) then Some (decimal_from 0 (d ∷ ds)) else None

-- a number behind a minus, other than 0
unfoldable pub negative : Option ℕ → Option ℤ
negative (Some (suc n)) = Some (negsuc n)
negative _ = None

-- a decimal constant may have a minus before a number other than 0
unfoldable pub decimal_of : List ℕ → Option ℤ
decimal_of [] = None
decimal_of (b ∷ bs) = if b == byte "-" then negative (number_of bs) else option_map pos (number_of (b ∷ bs))

-- ---- hexadecimal digits, a pattern of 32 bits in two's complement

-- the value of hexadecimal digits, the most significant first
abbrev pub hex_number : List ℕ → ℕ
hex_number ds = fold (λ (v d : ℕ). v * 16 + hex_value d) 0 ds

-- the most digits of a pattern
abbrev pub pattern_digits : ℕ
pattern_digits = 8

-- what more digits are read as: a number that is no value of a reading
abbrev pub too_large : ℤ
too_large = pos 2147483648

-- one or more digits; more than eight are out of range, whatever their value
unfoldable pub pattern_of : List ℕ → Option ℤ
pattern_of [] = None
pattern_of (d ∷ ds) =
    if list_all is_hex_digit (d ∷ ds) then Some (if nat_le (length (d ∷ ds)) pattern_digits then cast_signed w32 (hex_number (d ∷ ds)) else too_large) else None

-- `0x` and such digits
unfoldable pub hexadecimal_of : List ℕ → Option ℤ
hexadecimal_of (z ∷ x ∷ ds) = if z == byte "0" && x == byte "x" then pattern_of ds else None
hexadecimal_of _ = None

-- a constant of a text, or the value of a reading in an epoch line
unfoldable pub constant_of : List ℕ → Option ℤ
constant_of t = option_or (decimal_of t) (hexadecimal_of t)
