-- What is kept of bytes are their first.
use Rattle.std.proofs.Common.{◌≡◌, ℕ, ◌≤◌, List, length, take, min, sym, ap, ◌∙◌, arith, length-take-le, take-take, length-take}

pub kept_few : (n k : ℕ) (xs ys : List ℕ) → n ≤ length xs → take n xs ≡ take k ys → n ≡ min k (length ys)
kept_few n k xs ys h e = sym (length-take-le n xs h) ∙ ap length e ∙ length-take k ys

pub kept_first : (n k : ℕ) (xs ys : List ℕ) → n ≤ length xs → take n xs ≡ take k ys → take n xs ≡ take n ys
kept_first n k xs ys h e = sym (take-take n n xs (omega arith)) ∙ ap (take n) e ∙ take-take n k ys (omega (arith, kept_few n k xs ys h e))
