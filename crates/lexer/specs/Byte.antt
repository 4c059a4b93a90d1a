-- Bytes: their classes, and texts written out.
use Rattle.std.specs.Str.{byte}
use Rattle.std.specs.Prelude.{ℕ, ◌+◌, ◌-◌, codes, Bool, true, false, ◌&&◌, ◌||◌, List, [], ◌∷◌, ◌==◌, nat_eq, nat_lt, nat_le, if◌then◌else◌}
use Prim.Native.String.{String}
use Rattle.std.specs.List.{list_any}
use Rattle.lexer.specs.declared.class.Class.{Class}

-- the bytes of a text of ASCII characters
unfoldable pub bytes : String → List ℕ
bytes s = codes s

unfoldable pub bytes_equal : List ℕ → List ℕ → Bool
bytes_equal [] [] = true
bytes_equal (x ∷ xs) (y ∷ ys) = x == y && bytes_equal xs ys
bytes_equal _ _ = false

-- the bytes are those of the keyword
unfoldable pub is : String → List ℕ → Bool
is keyword t = bytes_equal t (bytes keyword)

abbrev pub is_space : ℕ → Bool
is_space b = b == byte " "

abbrev pub is_line_end : ℕ → Bool
is_line_end b = b == 10

-- what a token ends before
abbrev pub ends_token : ℕ → Bool
ends_token b = is_space b || is_line_end b

abbrev pub is_digit : ℕ → Bool
is_digit b = nat_le (byte "0") b && nat_le b (byte "9")

abbrev pub is_letter : ℕ → Bool
is_letter b = nat_le (byte "A") b && nat_le b (byte "Z") || nat_le (byte "a") b && nat_le b (byte "z")

abbrev pub is_sign : ℕ → Bool
is_sign b = list_any (nat_eq b) (bytes "&!,=<>-#")

unfoldable pub class_of : ℕ → Class
class_of b =
    if is_space b then Class.Space
    else (if is_line_end b then Class.LineEnd
    else (if is_digit b then Class.Digit
    else (if is_letter b then Class.Letter
    else (if is_sign b then Class.Sign else Class.Other))))

-- the value of a hexadecimal digit of either case; 16 for any other byte
unfoldable pub hex_value : ℕ → ℕ
hex_value b =
    if is_digit b then b - byte "0"
    else (if nat_le (byte "A") b && nat_le b (byte "F") then b - byte "A" + 10
    else (if nat_le (byte "a") b && nat_le b (byte "f") then b - byte "a" + 10 else 16))

abbrev pub is_hex_digit : ℕ → Bool
is_hex_digit b = nat_lt (hex_value b) 16
