-- Numbers in decimal and in hexadecimal digits.
use Rattle.std.specs.Str.{byte}
use Rattle.std.specs.Prelude.{ℕ, zero, suc, ◌+◌, ◌*◌, ◌-◌, ◌/◌, ◌%◌, ◌^◌, ℤ, pos, negsuc, Bool, true, false, List, [], ◌∷◌, ◌++◌, fold, nat_lt, if◌then◌else◌}

-- ---- decimal

abbrev pub digit : ℕ → ℕ
digit d = byte "0" + d

-- the digits of n, the most significant first, if they are at most k + 1; `only` tells whether n has just one. Those of std's `decimal` are at most
-- 64: these are of every number, and the same under 2 ^ 64
unfoldable pub digits : ℕ → Bool → ℕ → List ℕ
digits zero only n = digit n ∷ []
digits (suc k) true n = digit n ∷ []
digits (suc k) false n = digits k (nat_lt (n / 10) 10) (n / 10) ++ digit (n % 10) ∷ []

unfoldable pub decimal : ℕ → List ℕ
decimal n = digits n (nat_lt n 10) n

-- with a minus where it is below zero
abbrev pub integer : ℤ → List ℕ
integer (pos n) = decimal n
integer (negsuc n) = byte "-" ∷ decimal (suc n)

-- ---- hexadecimal

unfoldable pub hex_digit : ℕ → ℕ
hex_digit d = if nat_lt d 10 then byte "0" + d else byte "A" + (d - 10)

-- the last k hexadecimal digits, the most significant first
unfoldable pub hex_digits : ℕ → ℕ → List ℕ
hex_digits zero w = []
hex_digits (suc k) w = hex_digit (w / 2 ^ (4 * k) % 16) ∷ hex_digits k w

-- a word of 32 bits
abbrev pub hex_word : ℕ → List ℕ
hex_word w = hex_digits 8 w

-- ---- the value of digits of a base, which the laws of proofs/DecimalLaws.antt and HexLaws.antt show to be the number

abbrev pub value_in_base : ℕ → (ℕ → ℕ) → List ℕ → ℕ
value_in_base base value ds = fold (λ (v d : ℕ). v * base + value d) 0 ds

abbrev pub digit_value : ℕ → ℕ
digit_value b = b - byte "0"

unfoldable pub hex_digit_value : ℕ → ℕ
hex_digit_value b = if nat_lt b (byte "A") then b - byte "0" else 10 + (b - byte "A")
