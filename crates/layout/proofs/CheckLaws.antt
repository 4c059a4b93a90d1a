-- Laws of the check words of every form, which hold whatever they are made of.
use Rattle.std.proofs.Common.{◌≡◌, ℕ, zero, suc, ◌+◌, ◌*◌, ◌%◌, ◌<◌, ◌≤◌, Bool, true, false, if◌then◌else◌, ◌==◌, ◌||◌, List, [], ◌∷◌, ◌++◌, length, get_or, take, drop, refl, sym, ◌∙◌, arith, eqb-true, eq-eqb, add-one, take_at, take-append-drop, drop-cons, drop_of_length-le, append_assoc}
use Rattle.std.proofs.lemmas.List.{take_more}
use Rattle.std.proofs.Math.Seq.{get_or_at}
use Rattle.std.proofs.lemmas.Bool.Decides.{nat_tests}
use Rattle.word.specs.Word.{word_limit, Below}
use Rattle.layout.specs.Layout.{known_form, check_count, rule_word_limit, constraint_word_limit, size_limit, sum, check_word, weighted_word, weighted_right, check_words}
use Rattle.layout.proofs.SumLaws.{check_word_is, check_sum, check_below, sum_append}

-- ---- forms

module _ (form : ℕ) where
  pub form_below : known_form form ≡ true → form < 256
  unfolding known_form
  form_below known = grind (arith, nat_tests)

  pub checks_few : (1 ≤ check_count form) × (check_count form ≤ 2)
  unfolding check_count
  checks_few = grind arith

  -- the fields of word 0 hold the counts
  pub limits_small : (rule_word_limit form < 4096) × (constraint_word_limit form < 4096)
  limits_small = omega arith

  -- the largest image of a form
  pub size_fits : (1 + rule_word_limit form + constraint_word_limit form + check_count form) * 4 ≤ size_limit
  size_fits = omega (arith, checks_few.1)

  -- ---- the check words of some words

  pub checks_length : (ws : List ℕ) → length (check_words form ws) ≡ check_count form
  unfolding check_words check_count
  checks_length ws = grind arith

  pub checks_below : (ws : List ℕ) → Below word_limit (check_words form ws)
  unfolding check_words weighted_word
  checks_below ws = go (form == 1)
    where
      go : (b : Bool) → Below word_limit (if b then check_word ws ∷ [] else weighted_word ws ∷ check_word (ws ++ weighted_word ws ∷ []) ∷ [])
      go true zero = check_below ws
      go true (suc i) = omega arith
      go false zero = omega arith
      go false (suc zero) = check_below (ws ++ weighted_word ws ∷ [])
      go false (suc (suc i)) = omega arith

  -- they bring the sum to 0
  pub checks_sum : (ws : List ℕ) → sum (ws ++ check_words form ws) % word_limit ≡ 0
  unfolding check_words
  checks_sum ws = go (form == 1)
    where
      go : (b : Bool) → sum (ws ++ (if b then check_word ws ∷ [] else weighted_word ws ∷ check_word (ws ++ weighted_word ws ∷ []) ∷ [])) % word_limit ≡ 0
      go true = check_sum ws
      go false = rw (append_assoc ws (weighted_word ws ∷ []) (check_word (ws ++ weighted_word ws ∷ []) ∷ [])) at (check_sum (ws ++ weighted_word ws ∷ []))

  -- and the weighted one is right
  pub weighted_made : (n : ℕ) (ws : List ℕ) → n ≡ length ws → weighted_right form n (ws ++ check_words form ws) ≡ true
  unfolding check_words weighted_right
  weighted_made n ws size = go (form == 1)
    where
      go : (b : Bool) → (b || get_or (ws ++ (if b then check_word ws ∷ [] else weighted_word ws ∷ check_word (ws ++ weighted_word ws ∷ []) ∷ [])) n 0 == weighted_word (take n (ws ++ (if b then check_word ws ∷ [] else weighted_word ws ∷ check_word (ws ++ weighted_word ws ∷ []) ∷ [])))) ≡ true
      go true = refl
      go false =
          let checks : List ℕ = weighted_word ws ∷ check_word (ws ++ weighted_word ws ∷ []) ∷ [] in
          eq-eqb _ _ (rw (take_at ws checks n (sym size)) (get_or_at ws (weighted_word ws) (check_word (ws ++ weighted_word ws ∷ []) ∷ []) 0 n (sym size)))

  -- what it is, in all forms but the first
  module _ (newer : form ≡ 1 → ⊥) (n : ℕ) (ws : List ℕ) where
    pub weighted_is : weighted_right form n ws ≡ true → get_or ws n 0 ≡ weighted_word (take n ws)
    unfolding weighted_right
    weighted_is right = grind (arith, nat_tests)

    pub weighted_is_not : (get_or ws n 0 ≡ weighted_word (take n ws) → ⊥) → weighted_right form n ws ≡ false
    unfolding weighted_right
    weighted_is_not other = grind (arith, nat_tests)

  -- ---- words of which the last pass the checks

  module _ (n : ℕ) (ws : List ℕ) (below : Below word_limit ws) (size : length ws ≡ n + check_count form) (zero_sum : sum ws % word_limit ≡ 0) (right : weighted_right form n ws ≡ true) where
    -- the words are those before an index, and a last one that brings the sum to 0
    last_found : (k : ℕ) → length ws ≡ k + 1 → drop k ws ≡ check_word (take k ws) ∷ []
    unfolding sum
    last_found k whole =
        let alone : drop k ws ≡ get_or ws k 0 ∷ [] = drop-cons ws k 0 (omega arith) ∙ rw (drop_of_length-le ws {i = suc k} (omega arith)) in
        let a : sum ws ≡ sum (take k ws) + sum (get_or ws k 0 ∷ []) = rw (take-append-drop k ws, alone) at (sum_append (take k ws) (drop k ws)) in
        alone ∙ rw (check_word_is (take k ws) (sum (take k ws) % word_limit) (get_or ws k 0) refl (omega arith) (below k))

    -- they are those of the words before them
    pub checks_found : drop n ws ≡ check_words form (take n ws)
    unfolding check_words check_count weighted_right
    checks_found = go (form == 1) size right
      where
        before : List ℕ
        before = take n ws

        go : (b : Bool) → length ws ≡ n + (if b then 1 else 2) → (b || get_or ws n 0 == weighted_word before) ≡ true
            → drop n ws ≡ (if b then check_word before ∷ [] else weighted_word before ∷ check_word (before ++ weighted_word before ∷ []) ∷ [])
        go true whole r = last_found n whole
        go false whole r =
            let e : get_or ws n 0 ≡ weighted_word before = eqb-true (get_or ws n 0) (weighted_word before) r in
            let t : take (n + 1) ws ≡ before ++ weighted_word before ∷ [] = take_more ws n 0 (omega arith) ∙ rw e in
            drop-cons ws n 0 (omega arith) ∙ rw (e, ← add-one n, last_found (n + 1) (omega arith), t)
