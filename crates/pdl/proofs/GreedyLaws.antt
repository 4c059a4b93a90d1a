-- Laws of keeping candidates by rising number: what is kept lies within the candidates, is not bad, and is the best such set, so it is
-- maximal.
use Rattle.std.proofs.Common.{ℕ, zero, suc, ◌^◌, ◌≤◌, ◌<◌, Bool, true, false, not, ◌&&◌, ◌≢◌, ◌⊎◌, inl, inr, ⊎_elim, ◌≡◌, refl, arith}
use Rattle.std.proofs.lemmas.Bool.{cases_lt, cases_eq}
use Rattle.policy.proofs.SetLaws.{has_empty, has_insert_same, has_insert_other, has_insert_cases, has_limit, set_ext, has_below, has_below_past}
use Rattle.pdl.specs.Greedy.{try_next, kept_below, greedy}
use Rattle.policy.specs.Number.{set_limit}
use Rattle.policy.specs.Set.{has, insert, below}

-- each member of s is one of t
abbrev pub Within : ℕ → ℕ → Type 0
Within s t = (n : ℕ) → has s n ≡ true → has t n ≡ true

-- a larger set is bad too
abbrev pub Monotone : (ℕ → Bool) → Type 0
Monotone bad = (s t : ℕ) → Within s t → bad s ≡ true → bad t ≡ true

-- ---- the lowest number in which two sets differ

same_or_not : (a b : Bool) → (a ≡ b) ⊎ ¬ (a ≡ b)
same_or_not a b = grind arith

module _ (s t : ℕ) where
  abbrev pub AgreeBelow : ℕ → Type 0
  AgreeBelow n = (m : ℕ) → m < n → has s m ≡ has t m

  abbrev pub DifferAt : ℕ → Type 0
  DifferAt n = ¬ (has s n ≡ has t n) × AgreeBelow n

  one_more : (n : ℕ) → AgreeBelow n → has s n ≡ has t n → AgreeBelow (suc n)
  one_more n lower e m h = grind (arith, lower m, cases_eq m n)

  pub agree_or_differ : (n : ℕ) → AgreeBelow n ⊎ ((m : ℕ) × DifferAt m)
  agree_or_differ zero = inl (λ m h. absurd (omega arith))
  agree_or_differ (suc n) = ⊎_elim (λ lower. ⊎_elim (λ e. inl (one_more n lower e)) (λ d. inr (n, (d, lower))) (same_or_not (has s n) (has t n))) inr (agree_or_differ n)

  -- the members of s under n together with n lie in t, where t has n and agrees under it
  lower_within : (n : ℕ) → AgreeBelow n → has t n ≡ true → Within (insert (below s n) n) t
  lower_within n lower h m e = grind (arith, cases_lt m n, lower m, has_insert_cases (below s n) n m, has_below s n m, has_below_past s n m)

module _ (bad : ℕ → Bool) (candidates : ℕ) where
  next_is : (n : ℕ) → kept_below bad candidates (suc n) ≡ try_next bad candidates (kept_below bad candidates n) n
  unfolding kept_below
  next_is n = refl

  -- a trial concerns the tried number only
  try_other : (kept n m : ℕ) → m ≢ n → has (try_next bad candidates kept n) m ≡ has kept m
  unfolding try_next
  try_other kept n m h = grind (arith, has_insert_other)

  try_same : (kept n : ℕ) → n < set_limit → has kept n ≡ false → has (try_next bad candidates kept n) n ≡ has candidates n && not (bad (insert kept n))
  unfolding try_next
  try_same kept n h k = grind (arith, has_insert_same)

  kept_past : (n m : ℕ) → n ≤ m → has (kept_below bad candidates n) m ≡ false
  unfolding kept_below
  kept_past zero m h = grind (arith, has_empty)
  kept_past (suc n) m h = grind (arith, try_other, kept_past n m (omega arith))

  kept_stable : (k n m : ℕ) → n ≤ k → m < n → has (kept_below bad candidates k) m ≡ has (kept_below bad candidates n) m
  kept_stable zero n m l h = absurd (omega arith)
  kept_stable (suc k) n m l h = grind (arith, cases_eq n (suc k), next_is k, try_other (kept_below bad candidates k) k m, kept_stable k n m)

  pub greedy_past : (m : ℕ) → set_limit ≤ m → has (greedy bad candidates) m ≡ false
  unfolding greedy
  greedy_past m h = grind (arith, kept_past)

  lower_same : (n m : ℕ) → n ≤ set_limit → has (kept_below bad candidates n) m ≡ has (below (greedy bad candidates) n) m
  unfolding greedy
  lower_same n m l = grind (arith, cases_lt, kept_stable, has_below, kept_past, has_below_past)

  -- what is kept below n are the members under n of what is kept in all
  kept_below_is : (n : ℕ) → n ≤ set_limit → kept_below bad candidates n ≡ below (greedy bad candidates) n
  kept_below_is n l = set_ext (kept_below bad candidates n) (below (greedy bad candidates) n) (λ m. lower_same n m l)

  -- a number is kept exactly if it is a candidate and is not bad together with the lower kept ones
  pub greedy_member : (n : ℕ) → n < set_limit → has (greedy bad candidates) n ≡ has candidates n && not (bad (insert (below (greedy bad candidates) n) n))
  greedy_member n h =
      grind (arith, kept_below_is n, next_is n, try_same (kept_below bad candidates n) n, kept_past n n, lower_same (suc n) n, has_below (greedy bad candidates) (suc n) n)

  pub greedy_limit : (n : ℕ) → has (greedy bad candidates) n ≡ true → n < set_limit
  greedy_limit n e = grind (arith, greedy_past)

  -- what a kept number's trial showed
  pub greedy_kept : (n : ℕ) → has (greedy bad candidates) n ≡ true → (has candidates n ≡ true) × (bad (insert (below (greedy bad candidates) n) n) ≡ false)
  greedy_kept n e = grind (arith, greedy_member, greedy_limit)

  -- what the trial of a candidate that was not kept showed
  pub greedy_dropped : (n : ℕ) → n < set_limit → has candidates n ≡ true → has (greedy bad candidates) n ≡ false → bad (insert (below (greedy bad candidates) n) n) ≡ true
  greedy_dropped n h c e = grind (arith, greedy_member)

  pub greedy_within : Within (greedy bad candidates) candidates
  greedy_within n e = (greedy_kept n e).0

  kept_good : bad 0 ≡ false → (n : ℕ) → bad (kept_below bad candidates n) ≡ false
  unfolding kept_below try_next
  kept_good z zero = z
  kept_good z (suc n) = grind (arith, kept_good z n)

  pub greedy_good : bad 0 ≡ false → bad (greedy bad candidates) ≡ false
  unfolding greedy
  greedy_good z = kept_good z 64

  module _ (mono : Monotone bad) (limit : candidates < 2 ^ 64) (u : ℕ) (within : Within u candidates) (good : bad u ≡ false) where
    -- the lowest number in which what is kept differs from another good set of candidates is kept
    pub greedy_best : (n : ℕ) → DifferAt (greedy bad candidates) u n → has (greedy bad candidates) n ≡ true
    greedy_best n d =
        let larger = λ (h : has u n ≡ true). mono (insert (below (greedy bad candidates) n) n) u (lower_within (greedy bad candidates) u n d.1 h) in
        grind (arith, larger, greedy_dropped n, has_limit candidates limit n, within n)

    same_at : AgreeBelow (greedy bad candidates) u set_limit → (n : ℕ) → has u n ≡ has (greedy bad candidates) n
    same_at h n = grind (arith, cases_lt n set_limit, h n, within n, has_limit candidates limit n, greedy_past n)

    -- two such sets are equal, or there is such a number
    pub greedy_differs : (u ≡ greedy bad candidates) ⊎ ((n : ℕ) × DifferAt (greedy bad candidates) u n)
    greedy_differs = ⊎_elim (λ h. inl (set_ext u (greedy bad candidates) (same_at h))) inr (agree_or_differ (greedy bad candidates) u set_limit)

    -- no larger one is good
    pub greedy_maximal : Within (greedy bad candidates) u → u ≡ greedy bad candidates
    greedy_maximal h = grind (arith, greedy_best, greedy_differs)
