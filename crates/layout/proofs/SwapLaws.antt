-- Two neighbours exchanged: their sum is as it was, and the weighted one is not, unless they are the same.
use Rattle.std.proofs.Common.{◌≡◌, ◌≢◌, ℕ, zero, suc, ◌+◌, ◌*◌, ◌%◌, ◌<◌, ◌≤◌, List, [], ◌∷◌, length, get_or, set, take, sym, ap, arith, get_or-take, length-set, length-take, mul-add, mul-one, get_or-set_other, get_or-set_same, swap}
use Rattle.std.proofs.Math.Seq.{take-set-lt}
use Rattle.std.proofs.lemmas.List.Edits.{swap_is}
use Rattle.word.specs.Word.{word_limit, Below}
use Rattle.layout.specs.Layout.{sum, weighted_from, weighted_word}
use Rattle.layout.proofs.SumLaws.{sum_set}

weighted_set : (n i v : ℕ) (ws : List ℕ) → i < length ws → weighted_from n (set ws i v) + get_or ws i 0 * (n + i + 1) ≡ weighted_from n ws + v * (n + i + 1)
unfolding weighted_from
weighted_set n i v [] h = absurd (omega arith)
weighted_set n zero v (w ∷ ws) h = let e : n + 0 + 1 ≡ n + 1 = omega arith in rw e (omega arith)
weighted_set n (suc i) v (w ∷ ws) h =
    let e : n + suc i + 1 ≡ n + 1 + i + 1 = omega arith in
    rw e (omega (arith, weighted_set (n + 1) i v ws (omega arith)))

one_more : (w n : ℕ) → w * (n + 1 + 1) ≡ w * (n + 1) + w
one_more w n = rw (mul-add w (n + 1) 1, mul-one w)

module _ (ws : List ℕ) (i : ℕ) (inside : i + 1 < length ws) where
  abbrev a : ℕ
  a = get_or ws i 0

  abbrev b : ℕ
  b = get_or ws (i + 1) 0

  both : swap ws i (i + 1) ≡ set (set ws i b) (i + 1) a
  both = sym (swap_is ws i (i + 1) 0 (omega arith) inside)

  next : get_or (set ws i b) (i + 1) 0 ≡ b
  next = get_or-set_other ws i (i + 1) b 0 (λ e. omega arith)

  long : i + 1 < length (set ws i b)
  long = omega (arith, length-set ws i b)

  pub sum_swapped : sum (swap ws i (i + 1)) ≡ sum ws
  sum_swapped = rw both (omega (arith, sum_set (set ws i b) (i + 1) a long, sum_set ws i b (omega arith), next))

  pub weighted_swapped : weighted_from 0 (swap ws i (i + 1)) + get_or ws (i + 1) 0 ≡ weighted_from 0 ws + get_or ws i 0
  weighted_swapped =
      let sum : 0 + (i + 1) + 1 ≡ 0 + i + 1 + 1 = omega arith in
      let s = rw (next, sum, one_more a (0 + i), one_more b (0 + i)) at (weighted_set 0 (i + 1) a (set ws i b) long) in
      rw both (omega (arith, s, weighted_set 0 i b ws (omega arith)))

apart : (s s' a b : ℕ) → s' + b ≡ s + a → s' % word_limit ≡ s % word_limit → a < word_limit → b < word_limit → a ≡ b
apart s s' a b e m h k = omega arith

module _ (ws : List ℕ) (i n : ℕ) (inside : i + 1 < n) (whole : n ≤ length ws) where
  -- the words before an index, of which both are two
  pub taken_swapped : take n (swap ws i (i + 1)) ≡ swap (take n ws) i (i + 1)
  taken_swapped =
      rw (← swap_is ws i (i + 1) 0 (omega arith) (omega arith), take-set-lt n (set ws i (get_or ws (i + 1) 0)) (i + 1) (get_or ws i 0) inside, take-set-lt n ws i (get_or ws (i + 1) 0) (omega arith), ← get_or-take n ws i 0 (omega arith), ← get_or-take n ws (i + 1) 0 inside)
      (swap_is (take n ws) i (i + 1) 0 (omega (arith, length-take n ws)) (omega (arith, length-take n ws)))

  -- a word that is neither is as it was
  others : (k : ℕ) → k ≢ i → k ≢ i + 1 → get_or (swap ws i (i + 1)) k 0 ≡ get_or ws k 0
  others k p q =
      rw (← swap_is ws i (i + 1) 0 (omega arith) (omega arith), get_or-set_other (set ws i (get_or ws (i + 1) 0)) (i + 1) k (get_or ws i 0) 0 (λ e. omega arith), get_or-set_other ws i k (get_or ws (i + 1) 0) 0 (λ e. omega arith))

  pub behind_swapped : (k : ℕ) → i + 1 < k → get_or (swap ws i (i + 1)) k 0 ≡ get_or ws k 0
  behind_swapped k h = others k (omega arith) (omega arith)

  pub before_swapped : (k : ℕ) → k < i → get_or (swap ws i (i + 1)) k 0 ≡ get_or ws k 0
  before_swapped k h = others k (omega arith) (omega arith)

  -- and the one behind stands in the place of the other
  pub moved_swapped : get_or (swap ws i (i + 1)) i 0 ≡ get_or ws (i + 1) 0
  moved_swapped =
      rw (← swap_is ws i (i + 1) 0 (omega arith) (omega arith), get_or-set_other (set ws i (get_or ws (i + 1) 0)) (i + 1) i (get_or ws i 0) 0 (λ e. omega arith)) (get_or-set_same ws i (get_or ws (i + 1) 0) 0 (omega arith))

  -- two neighbours that differ change the weighted word of all before an index when they are exchanged
  pub swap_noticed : Below word_limit ws → weighted_word (take n (swap ws i (i + 1))) ≡ weighted_word (take n ws) → get_or ws i 0 ≡ get_or ws (i + 1) 0
  unfolding weighted_word
  swap_noticed below e =
      let x : get_or (take n ws) i 0 ≡ get_or ws i 0 = get_or-take n ws i 0 (omega arith) in
      let y : get_or (take n ws) (i + 1) 0 ≡ get_or ws (i + 1) 0 = get_or-take n ws (i + 1) 0 inside in
      let m = weighted_swapped (take n ws) i (omega (arith, length-take n ws)) in
      let t = ap (weighted_from 0) taken_swapped in
      apart (weighted_from 0 (take n ws)) (weighted_from 0 (take n (swap ws i (i + 1)))) (get_or ws i 0) (get_or ws (i + 1) 0) (omega (arith, m, t, x, y)) e (below i) (below (i + 1))
