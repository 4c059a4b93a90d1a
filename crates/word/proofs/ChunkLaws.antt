-- The words of an image cut into chunks of four bytes are the words of its bytes.
use Rattle.std.proofs.Common.{ℕ, zero, suc, ◌/◌, List, [], ◌∷◌, ◌≡◌, refl, ap₂, arith, length, drop, sym}
use Rattle.std.proofs.lemmas.List.{length-map, drop-map}
use Rattle.std.specs.Simd.{first_chunks}
use Rattle.word.specs.Word.{join, words_of}
use Rattle.word.specs.Chunk.{word_from, words_in}

word_join : (a b c d : ℕ) → word_from (a ∷ b ∷ c ∷ d ∷ []) ≡ join a b c d
word_join a b c d = grind arith

pub words_chunks : (k : ℕ) (bytes : List ℕ) → k ≡ length bytes / 4 → words_in (first_chunks 4 k bytes) ≡ words_of bytes
unfolding words_of
words_chunks zero (a ∷ b ∷ c ∷ d ∷ rest) e = absurd (omega arith)
words_chunks zero bytes e = refl
words_chunks (suc k) (a ∷ b ∷ c ∷ d ∷ rest) e = ap₂ (λ (x : ℕ) (xs : List ℕ). x ∷ xs) (word_join a b c d) (words_chunks k rest (omega arith))
words_chunks (suc k) bytes e = absurd (omega arith)

pub words_in_length : (chunks : List (List ℕ)) → length (words_in chunks) ≡ length chunks
words_in_length chunks = length-map chunks word_from

pub words_dropped : (k : ℕ) (chunks : List (List ℕ)) → words_in (drop k chunks) ≡ drop k (words_in chunks)
words_dropped k chunks = sym (drop-map word_from k chunks)
