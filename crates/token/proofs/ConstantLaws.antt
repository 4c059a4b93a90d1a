-- Laws of reading decimal constants: signs, the range of readings, and clipped numbers.
use Rattle.std.proofs.Common.{ℕ, ◌-◌, Bool, false, cond, List, [], ◌∷◌, ◌≡◌, refl, arith, ℤ, pos, negsuc, length, take, drop, Some, None, option_map, option_and_then, Option, eqb}
use Rattle.std.proofs.lemmas.List.{take_rest}
use Rattle.policy.specs.Limits.{is_reading_value}
use Rattle.lexer.specs.Number.{number_of, negative, decimal_of}
use Rattle.lexer.specs.Steps.Scan.{number_in}
use Rattle.token.specs.Steps.PartIn.{kept, positive_in, negative_in, decimal_in}

-- ---- the decimal constant in front, by its number

pub positive_by_number : (text : List ℕ) → positive_in text ≡ option_map (λ (r : ℕ × List ℕ). (kept is_reading_value (pos r.0), r.1)) (number_in text)
unfolding positive_in number_in is_reading_value
positive_by_number text = grind arith

-- a constant behind a minus, where its number is not 0
abbrev pub behind_minus : ℕ × List ℕ → Option (Option ℤ × List ℕ)
behind_minus r = cond (eqb r.0 0) None (Some (kept is_reading_value (negsuc (r.0 - 1)), r.1))

pub negative_by_number : (text : List ℕ) → negative_in text ≡ option_and_then behind_minus (number_in text)
unfolding negative_in number_in negative is_reading_value
negative_by_number text = grind arith

abbrev pub starts_minus : List ℕ → Bool
starts_minus [] = false
starts_minus (b ∷ s) = eqb b 45

decimal_first : (b : ℕ) (s : List ℕ) → decimal_in (b ∷ s) ≡ cond (eqb b 45) (negative_in s) (positive_in (b ∷ s))
unfolding decimal_in negative_in positive_in decimal_of number_of
decimal_first b s = grind arith

pub decimal_by_sign : (text : List ℕ) → decimal_in text ≡ cond (starts_minus text) (negative_in (take (length text - 1) (drop 1 text))) (positive_in text)
unfolding decimal_in positive_in decimal_of number_of
decimal_by_sign [] = refl
decimal_by_sign (b ∷ s) = rw (take_rest (b ∷ s) 1) (decimal_first b s)
