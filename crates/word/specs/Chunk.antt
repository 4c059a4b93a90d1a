-- An image inside the core: words as they stand in it, each of four bytes.
use Rattle.std.specs.Prelude.{ℕ, List, map}
use Rattle.std.specs.Int.{w32, from_be_bytes}

-- the word that four bytes are
abbrev pub word_from : List ℕ → ℕ
word_from bytes = from_be_bytes w32 bytes

abbrev pub words_in : List (List ℕ) → List ℕ
words_in chunks = map word_from chunks
