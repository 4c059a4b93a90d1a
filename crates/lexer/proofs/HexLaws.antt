-- Laws of hexadecimal digits: the loop that reads them keeps the last eight, and they are bytes of a token.
use Rattle.std.proofs.Common.{ℕ, zero, suc, ◌+◌, ◌*◌, ◌-◌, ◌%◌, ◌^◌, ◌<◌, ◌≤◌, true, List, [], ◌∷◌, ◌≡◌, mul-le-mul_left, mul-le-mul_right, arith, ltb-true, lt-ltb, length, take, drop, fold, get_or}
use Rattle.std.proofs.lemmas.Bool.{and_parts}
use Rattle.std.proofs.lemmas.List.{take_rest}
use Rattle.std.proofs.Math.Nat.{pow-succ', one-le-pow}
use Rattle.std.specs.List.{list_all}
use Rattle.lexer.specs.Byte.{hex_value, is_hex_digit}
use Rattle.lexer.specs.Number.{hex_number}
use Rattle.lexer.specs.Steps.Scan.{in_token}
use Rattle.lexer.specs.Lines.{take_leading}

-- the value of further digits, as a word
abbrev pub hex_from : ℕ → List ℕ → ℕ
hex_from v ds = fold (λ (x d : ℕ). x * 16 + hex_value d) v ds

-- only the last eight digits count in a word
pub hex_word_is : (v w : ℕ) (ds : List ℕ) → v % 2 ^ 32 ≡ w % 2 ^ 32 → hex_from v ds % 2 ^ 32 ≡ hex_from w ds % 2 ^ 32
hex_word_is v w [] e = e
hex_word_is v w (d ∷ ds) e = hex_word_is (v * 16 + hex_value d) (w * 16 + hex_value d) ds (omega arith)

-- one digit more
pub hex_past : (s : List ℕ) (v d : ℕ) → 1 ≤ length s → d ≡ hex_value (get_or s 0 0) → d < 16 → hex_from (v % 268435456 * 16 + d) (take_leading is_hex_digit (take (length s - 1) (drop 1 s))) % 2 ^ 32 ≡ hex_from v (take_leading is_hex_digit s) % 2 ^ 32
hex_past [] v d h q l = absurd (omega arith)
hex_past (b ∷ s) v d h q l =
    rw (lt-ltb (hex_value b) 16 (omega arith), take_rest (b ∷ s) 1) (hex_word_is (v % 268435456 * 16 + d) (v * 16 + hex_value b) (take_leading is_hex_digit s) (omega arith))

-- so many digits are below that power of 16
hex_below : (k v : ℕ) (ds : List ℕ) → list_all is_hex_digit ds ≡ true → length ds ≤ k → hex_from v ds < (v + 1) * 16 ^ k
hex_below k v [] e h = let l = one-le-pow k 16 (omega arith) in omega (arith, mul-le-mul_left (v + 1) l)
hex_below zero v (d ∷ ds) e h = absurd (omega arith)
hex_below (suc k) v (d ∷ ds) e h =
    let q = and_parts (is_hex_digit d) (list_all is_hex_digit ds) e in
    let below = hex_below k (v * 16 + hex_value d) ds q.1 (omega arith) in
    let m : v * 16 + hex_value d + 1 ≤ (v + 1) * 16 = omega (arith, ltb-true (hex_value d) 16 q.0) in
    rw (pow-succ' 16 k) (omega (arith, mul-le-mul_right (16 ^ k) m))

pub hex_bound : (k : ℕ) (ds : List ℕ) → list_all is_hex_digit ds ≡ true → length ds ≤ k → hex_number ds < 16 ^ k
hex_bound k ds e h = let b = hex_below k 0 ds e h in omega arith

-- a hexadecimal digit is neither a space nor a line end
pub hex_inside : (b : ℕ) → is_hex_digit b ≡ true → in_token b ≡ true
unfolding hex_value
hex_inside b e = grind arith
