-- A lent buffer after words were put into it.
use Rattle.std.specs.Prelude.{ℕ, ◌+◌, ◌*◌, ◌/◌, Bool, List, ◌++◌, length, take, drop, nat_le, if◌then◌else◌}
use Rattle.word.specs.Word.{bytes_of}

-- the bytes in place of those that stood there
unfoldable pub put_bytes : List ℕ → ℕ → List ℕ → List ℕ
put_bytes buffer at bytes = take at buffer ++ bytes ++ drop (at + length bytes) buffer

-- whether so many words fit from a word index on
unfoldable pub fits : List ℕ → ℕ → ℕ → Bool
fits buffer index count = nat_le (index + count) (length buffer / 4)

-- words from a word index on; nothing changes where they do not fit
unfoldable pub put_words : List ℕ → ℕ → List ℕ → List ℕ
put_words buffer index words = if fits buffer index (length words) then put_bytes buffer (index * 4) (bytes_of words) else buffer
