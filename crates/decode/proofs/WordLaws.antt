-- Words of four bytes are below 2 ^ 32.
use Rattle.std.proofs.Common.{ℕ, zero, suc, ◌<◌, List, [], ◌∷◌, ◌≡◌, arith, length, get_or, flat_map}
use Rattle.word.specs.Word.{word_limit, Below}
use Rattle.word.specs.Chunk.{words_in, word_from}

word_below : (a b c d : ℕ) → a < 256 → b < 256 → c < 256 → d < 256 → word_from (a ∷ b ∷ c ∷ d ∷ []) < word_limit
word_below a b c d ha hb hc hd = omega arith

pub words_below : (chunks : List (List ℕ)) → ((i : ℕ) → i < length chunks → length (get_or chunks i []) ≡ 4) → Below 256 (flat_map (λ (x : List ℕ). x) chunks) → Below word_limit (words_in chunks)
words_below [] h b i = omega arith
words_below ((a ∷ x ∷ c ∷ d ∷ []) ∷ chunks) h b zero = word_below a x c d (b 0) (b 1) (b 2) (b 3)
words_below ((a ∷ x ∷ c ∷ d ∷ []) ∷ chunks) h b (suc i) = words_below chunks (λ n l. h (suc n) (omega arith)) (λ j. b (suc (suc (suc (suc j))))) i
words_below (chunk ∷ chunks) h b i = absurd (omega (arith, h 0 (omega arith)))
