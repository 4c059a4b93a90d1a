-- Laws of the hexadecimal digits of a word: their value is the word; and the loop that puts them.
use Rattle.std.proofs.Common.{ℕ, zero, suc, ◌+◌, ◌-◌, ◌*◌, ◌/◌, ◌%◌, ◌^◌, ◌≤◌, ◌<◌, [], ◌∷◌, ◌≡◌, ◌∙◌, arith, pow-add, fold}
use Rattle.std.proofs.Math.Pow.{mod-pow-add}
use Rattle.output.specs.Number.{hex_digit, hex_digits, hex_word, value_in_base, hex_digit_value}

-- ---- the digits are those of the word

digit_value : (d : ℕ) → d < 16 → hex_digit_value (hex_digit d) ≡ d
unfolding hex_digit_value hex_digit
digit_value d h = grind arith

digits_value : (k v w : ℕ)
    → fold (λ (x b : ℕ). x * 16 + hex_digit_value b) v (hex_digits k w) ≡ v * 2 ^ (4 * k) + w % 2 ^ (4 * k)
unfolding hex_digits
digits_value zero v w = omega arith
digits_value (suc k) v w =
    let d = w / 2 ^ (4 * k) % 16 in
    let e : 4 * suc k ≡ 4 + 4 * k = omega arith in
    digits_value k (v * 16 + hex_digit_value (hex_digit d)) w ∙ rw (digit_value d (omega arith)) (rw (e, mod-pow-add w 4 (4 * k), pow-add 2 4 (4 * k)) (omega arith))

pub word_value : (w : ℕ) → w < 2 ^ 32 → value_in_base 16 hex_digit_value (hex_word w) ≡ w
word_value w h = digits_value 8 0 w ∙ omega arith

-- ---- the loop that puts the digits, one place after another

digits_none : (k w : ℕ) → k ≡ 0 → hex_digits k w ≡ []
unfolding hex_digits
digits_none k w h = grind arith

-- the digit at a place of a word, before those of the next
pub digit_next : (place w : ℕ) → place < 8 → hex_digits (8 - place) w ≡ hex_digit (w / 2 ^ (28 - 4 * place) % 16) ∷ hex_digits (8 - (place + 1)) w
unfolding hex_digits
digit_next place w h = grind arith

pub digits_over : (place w : ℕ) → 8 ≤ place → hex_digits (8 - place) w ≡ []
digits_over place w h = grind (arith, digits_none)
