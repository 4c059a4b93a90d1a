-- Laws of what stands in front of a list and what stands behind it.
use Rattle.std.proofs.Common.{ℕ, ◌+◌, ◌≤◌, Bool, true, List, [], ◌∷◌, ◌++◌, ◌≡◌, refl, ap, arith, length, length-append}
use Rattle.std.specs.List.{list_all}
use Rattle.lexer.specs.Lines.{take_leading, drop_leading}

module _ (p : ℕ → Bool) where
  -- both parts are the list
  pub leading_joined : (s : List ℕ) → take_leading p s ++ drop_leading p s ≡ s
  leading_joined [] = refl
  leading_joined (b ∷ s) = grind (arith, leading_joined s)

  pub leading_length : (s : List ℕ) → length (take_leading p s) + length (drop_leading p s) ≡ length s
  leading_length s = simp length-append at (ap length (leading_joined s))

  pub drop_shorter : (s : List ℕ) → length (drop_leading p s) ≤ length s
  drop_shorter s = omega (arith, leading_length s)

  -- each element in front passes
  pub leading_pass : (s : List ℕ) → list_all p (take_leading p s) ≡ true
  leading_pass [] = refl
  leading_pass (b ∷ s) = grind (arith, leading_pass s)

  -- the first element behind doesn't
  pub leading_ends : (s : List ℕ) → take_leading p (drop_leading p s) ≡ []
  leading_ends [] = refl
  leading_ends (b ∷ s) = grind (arith, leading_ends s)

  -- where all that passes another test passes this one: first what passes the other, and then the rest
  module _ (q : ℕ → Bool) (within : (b : ℕ) → q b ≡ true → p b ≡ true) where
    pub take_through : (s : List ℕ) → take_leading p s ≡ take_leading q s ++ take_leading p (drop_leading q s)
    take_through [] = refl
    take_through (b ∷ s) = grind (arith, within b, take_through s)

    pub drop_through : (s : List ℕ) → drop_leading p s ≡ drop_leading p (drop_leading q s)
    drop_through [] = refl
    drop_through (b ∷ s) = grind (arith, within b, drop_through s)
