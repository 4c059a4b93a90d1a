-- Words of 32 bits, each stored most significant byte first.
use Rattle.std.specs.Prelude.{ℕ, ◌+◌, ◌*◌, ◌/◌, ◌%◌, ◌^◌, ◌<◌, List, [], ◌∷◌, ◌++◌, take, drop, slice_index_or}

abbrev pub word_limit : ℕ
word_limit = 2 ^ 32

-- each element is below n
abbrev pub Below : ℕ → List ℕ → Type 0
Below n xs = (i : ℕ) → slice_index_or xs i 0 < n

abbrev pub Bytes : List ℕ → Type 0
Bytes bytes = Below 256 bytes

abbrev pub join : ℕ → ℕ → ℕ → ℕ → ℕ
join a b c d = a * 2 ^ 24 + b * 2 ^ 16 + c * 2 ^ 8 + d

-- four bytes at a time; what is left over is no word
unfoldable pub words_of : List ℕ → List ℕ
words_of (a ∷ b ∷ c ∷ d ∷ rest) = join a b c d ∷ words_of rest
words_of _ = []

abbrev pub byte_list : ℕ → List ℕ
byte_list w = w / 2 ^ 24 % 256 ∷ w / 2 ^ 16 % 256 ∷ w / 2 ^ 8 % 256 ∷ w % 256 ∷ []

unfoldable pub bytes_of : List ℕ → List ℕ
bytes_of [] = []
bytes_of (w ∷ ws) = byte_list w ++ bytes_of ws

-- 0 past the last word
abbrev pub word_at : List ℕ → ℕ → ℕ
word_at bytes i = slice_index_or (words_of bytes) i 0

-- the words from one index up to another
unfoldable pub between : ℕ → ℕ → List ℕ → List ℕ
between from end words = drop from (take end words)
