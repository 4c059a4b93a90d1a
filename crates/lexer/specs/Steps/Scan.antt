-- What stands in front of a text, and what is left behind it.
use Rattle.std.specs.Str.{byte}
use Rattle.std.specs.Prelude.{ℕ, ◌%◌, ◌^◌, min, Bool, false, not, List, [], ◌∷◌, Some, None, Option, option_map, if◌then◌else◌}
use Rattle.lexer.specs.Byte.{bytes_equal, is_space, ends_token, is_digit, is_hex_digit}
use Rattle.lexer.specs.Token.{named}
use Rattle.lexer.specs.Lines.{tokens_of, take_leading, drop_leading, first_line}
use Rattle.lexer.specs.Number.{number_of, decimal_from, hex_number}

abbrev pub in_token : ℕ → Bool
in_token b = not (ends_token b)

-- the token in front: nothing where a space, a line end or the end of the text stands there
abbrev pub token_in : List ℕ → List ℕ
token_in text = take_leading in_token text

abbrev pub behind_token : List ℕ → List ℕ
behind_token text = drop_leading in_token text

abbrev pub without_spaces : List ℕ → List ℕ
without_spaces text = drop_leading is_space text

-- what stands behind the token in front, if it is the keyword
unfoldable pub keyword_in : List ℕ → List ℕ → Option (List ℕ)
keyword_in text keyword = if bytes_equal (token_in text) keyword then Some (behind_token text) else None

-- ---- numbers: those past every limit are all read as one

abbrev pub clip_limit : ℕ
clip_limit = 3000000000

abbrev pub clip : ℕ → ℕ
clip n = min n clip_limit

-- a number, and what stands behind it
abbrev pub clipped_before : List ℕ → ℕ → ℕ × List ℕ
clipped_before rest n = (clip n, rest)

-- the value of further digits in front, behind those of a value, and what stands behind them
abbrev pub further_digits : ℕ → List ℕ → ℕ × List ℕ
further_digits v text = (clip (decimal_from v (take_leading is_digit text)), drop_leading is_digit text)

abbrev pub starts_digit : List ℕ → Bool
starts_digit [] = false
starts_digit (b ∷ s) = is_digit b

-- the number that the digits in front are
unfoldable pub digits_in : List ℕ → Option (ℕ × List ℕ)
digits_in text = option_map (clipped_before (drop_leading is_digit text)) (number_of (take_leading is_digit text))

-- the hexadecimal digits in front: the value of the last eight of them, and what stands behind them
abbrev pub hex_digits_in : List ℕ → ℕ × List ℕ
hex_digits_in text = (hex_number (take_leading is_hex_digit text) % 2 ^ 32, drop_leading is_hex_digit text)

-- the number that the token in front is
unfoldable pub number_in : List ℕ → Option (ℕ × List ℕ)
number_in text = option_map (clipped_before (behind_token text)) (number_of (token_in text))

-- a letter and a number, as a whole token
unfoldable pub name_in : List ℕ → ℕ → Option (ℕ × List ℕ)
name_in text letter = option_map (clipped_before (behind_token text)) (named letter (token_in text))

abbrev pub event_in : List ℕ → Option (ℕ × List ℕ)
event_in text = name_in text (byte "E")

abbrev pub action_in : List ℕ → Option (ℕ × List ℕ)
action_in text = name_in text (byte "A")

abbrev pub reading_in : List ℕ → Option (ℕ × List ℕ)
reading_in text = name_in text (byte "R")

-- the tokens of the first line
unfoldable pub tokens_in : List ℕ → List (List ℕ)
tokens_in text = tokens_of (first_line text)
