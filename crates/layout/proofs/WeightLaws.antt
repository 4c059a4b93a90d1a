-- Laws of the weighted sum of words: summing one after the other, and two neighbours exchanged.
use Rattle.std.proofs.Common.{◌≡◌, ℕ, suc, ◌+◌, ◌*◌, ◌%◌, ◌<◌, List, [], ◌∷◌, ◌++◌, length, get_or, take, arith, length-take, mul_comm}
use Rattle.std.proofs.lemmas.List.{map-append, take_more}
use Rattle.std.proofs.lemmas.Nat.{mul-mod_first}
use Rattle.word.proofs.ChunkLaws.{words_in_length}
use Rattle.word.specs.Chunk.{word_from, words_in}
use Rattle.word.specs.Word.{word_limit}
use Rattle.layout.proofs.SumLaws.{sum_one_more}
use Rattle.layout.specs.Layout.{sum, weighted_from, weighted_word}

pub weighted_append : (n : ℕ) (ws : List ℕ) (w : ℕ) → weighted_from n (ws ++ w ∷ []) ≡ weighted_from n ws + w * (n + length ws + 1)
unfolding weighted_from
weighted_append n [] w = let e : n + 0 + 1 ≡ n + 1 = omega arith in rw e (omega arith)
weighted_append n (x ∷ ws) w =
    let e : n + suc (length ws) + 1 ≡ n + 1 + length ws + 1 = omega arith in
    rw e (omega (arith, weighted_append (n + 1) ws w))

-- ---- summing both, one word after the other

module _ (chunks : List (List ℕ)) (i : ℕ) (inside : i < length chunks) (w : ℕ) (is-word : w ≡ word_from (get_or chunks i [])) where
  words_more : words_in (take (i + 1) chunks) ≡ words_in (take i chunks) ++ w ∷ []
  words_more = rw (take_more chunks i [] inside, map-append word_from (take i chunks) (get_or chunks i [] ∷ []), is-word)

  pub plain_more : (p : ℕ) → p ≡ sum (words_in (take i chunks)) % word_limit → (p + w) % word_limit ≡ sum (words_in (take (i + 1) chunks)) % word_limit
  plain_more p e = rw words_more (omega (arith, sum_one_more (words_in (take i chunks)) w, e))

  pub weighted_more : (v weight : ℕ) → v ≡ weighted_word (words_in (take i chunks)) → weight ≡ i % word_limit → (v + w * ((weight + 1) % word_limit) % word_limit) % word_limit ≡ weighted_word (words_in (take (i + 1) chunks))
  unfolding weighted_word
  weighted_more v weight e f =
      let l : 0 + length (words_in (take i chunks)) + 1 ≡ i + 1 = omega (arith, words_in_length (take i chunks), length-take i chunks) in
      let m : (weight + 1) % word_limit ≡ (i + 1) % word_limit = omega arith in
      let n : w * ((weight + 1) % word_limit) % word_limit ≡ w * (i + 1) % word_limit = rw (m, mul_comm w ((i + 1) % word_limit), mul-mod_first (i + 1) w word_limit, mul_comm (i + 1) w) in
      let k = rw l at (weighted_append 0 (words_in (take i chunks)) w) in
      rw words_more (omega (arith, k, e, n))
