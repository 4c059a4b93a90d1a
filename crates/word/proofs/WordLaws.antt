-- Laws of bytes and words, both ways, and of packing a word and taking it apart.
use Rattle.std.proofs.Common.{ℕ, zero, suc, ◌+◌, ◌*◌, ◌/◌, ◌%◌, ◌^◌, ◌<◌, List, [], ◌∷◌, ◌++◌, append-nil, ◌≡◌, refl, sym, ap, ap₂, ◌∙◌, arith, length, shr-shr, ◌≤◌, drop, take_all, set}
use Rattle.std.proofs.Math.Pow.{split}
use Rattle.word.specs.Word.{word_limit, Below, join, words_of, bytes_of, byte_list, between}

-- ---- words of bytes

pub words_length : (bytes : List ℕ) → length (words_of bytes) ≡ length bytes / 4
unfolding words_of
words_length (a ∷ b ∷ c ∷ d ∷ rest) = grind (arith, words_length rest)
words_length bytes = refl

join_below : (a b c d : ℕ) → a < 256 → b < 256 → c < 256 → d < 256 → join a b c d < word_limit
join_below a b c d h k l m = grind arith

pub words_below : (bytes : List ℕ) → Below 256 bytes → Below word_limit (words_of bytes)
unfolding words_of
words_below (a ∷ b ∷ c ∷ d ∷ rest) h zero = join_below a b c d (h 0) (h 1) (h 2) (h 3)
words_below (a ∷ b ∷ c ∷ d ∷ rest) h (suc i) = words_below rest (λ j. h (suc (suc (suc (suc j))))) i
words_below bytes h i = omega arith

-- ---- there and back

-- n is its part above the k lowest bits and its part below; the part above in turn
pub parts : (n j k : ℕ) → n / 2 ^ j ≡ n / 2 ^ (j + k) * 2 ^ k + n / 2 ^ j % 2 ^ k
parts n j k = grind (arith, split, shr-shr)

pub lowest : (n k : ℕ) → n ≡ n / 2 ^ k * 2 ^ k + n % 2 ^ k
lowest n k = grind arith

join_bytes : (w : ℕ) → w < word_limit → join (w / 2 ^ 24 % 256) (w / 2 ^ 16 % 256) (w / 2 ^ 8 % 256) (w % 256) ≡ w
join_bytes w h = grind arith

-- words to bytes to words, whatever stands behind them
pub words_append : (words rest : List ℕ) → Below word_limit words → words_of (bytes_of words ++ rest) ≡ words ++ words_of rest
unfolding words_of bytes_of
words_append [] rest h = refl
words_append (w ∷ ws) rest h = ap₂ (λ (x : ℕ) (xs : List ℕ). x ∷ xs) (join_bytes w (h 0)) (words_append ws rest (λ i. h (suc i)))

pub words_of_bytes : (words : List ℕ) → Below word_limit words → words_of (bytes_of words) ≡ words
unfolding words_of
words_of_bytes words h = ap words_of (sym (append-nil (bytes_of words))) ∙ words_append words [] h ∙ append-nil words

bytes_join : (a b c d : ℕ) → a < 256 → b < 256 → c < 256 → d < 256 → byte_list (join a b c d) ≡ a ∷ b ∷ c ∷ d ∷ []
bytes_join a b c d h k l m = grind arith

-- bytes to words to bytes
pub bytes_of_words : (bytes : List ℕ) → Below 256 bytes → length bytes % 4 ≡ 0 → bytes_of (words_of bytes) ≡ bytes
unfolding words_of bytes_of
bytes_of_words (a ∷ b ∷ c ∷ d ∷ rest) h e =
    ap₂ (λ (xs ys : List ℕ). xs ++ ys) (bytes_join a b c d (h 0) (h 1) (h 2) (h 3)) (bytes_of_words rest (λ j. h (suc (suc (suc (suc j))))) (omega arith))
bytes_of_words [] h e = refl
bytes_of_words bytes h e = absurd (omega arith)

pub bytes_length : (words : List ℕ) → length (bytes_of words) ≡ length words * 4
unfolding bytes_of
bytes_length [] = refl
bytes_length (w ∷ ws) = grind (arith, bytes_length ws)

pub bytes_below : (words : List ℕ) → Below 256 (bytes_of words)
unfolding bytes_of
bytes_below [] i = grind arith
bytes_below (w ∷ ws) (suc (suc (suc (suc i)))) = grind (arith, bytes_below ws i)
bytes_below (w ∷ ws) i = grind arith

pub bytes_append : (a b : List ℕ) → bytes_of (a ++ b) ≡ bytes_of a ++ bytes_of b
unfolding bytes_of
bytes_append [] b = refl
bytes_append (w ∷ ws) b = grind (arith, bytes_append ws b)

pub rest_between : (from n : ℕ) (ws : List ℕ) → length ws ≤ n → between from n ws ≡ drop from ws
unfolding between
rest_between from n ws h = ap (drop from) (take_all n ws h)

-- ---- words below a limit

pub below_append : (k : ℕ) (a b : List ℕ) → Below k a → Below k b → Below k (a ++ b)
below_append k [] b ha hb i = hb i
below_append k (x ∷ a) b ha hb zero = ha 0
below_append k (x ∷ a) b ha hb (suc i) = below_append k a b (λ j. ha (suc j)) hb i

pub below_cons : (k w : ℕ) (ws : List ℕ) → w < k → Below k ws → Below k (w ∷ ws)
below_cons k w ws h b zero = h
below_cons k w ws h b (suc i) = b i

pub below_none : Below word_limit []
below_none i = omega arith

pub set_below : {k : ℕ} (ws : List ℕ) (i v : ℕ) → v < k → Below k ws → Below k (set ws i v)
set_below [] i v h b j = b j
set_below (w ∷ ws) zero v h b zero = h
set_below (w ∷ ws) zero v h b (suc j) = b (suc j)
set_below (w ∷ ws) (suc i) v h b zero = b 0
set_below (w ∷ ws) (suc i) v h b (suc j) = set_below ws i v h (λ k. b (suc k)) j
