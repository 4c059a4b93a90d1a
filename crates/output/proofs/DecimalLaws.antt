-- Laws of decimal digits: those of a number are those of its tenth and one more; their value is the number; how many there are.
use Prim.Native.Char.{code}
use Rattle.std.proofs.Common.{ℤ, pos, negsuc, FitsSigned, w32, ℕ, zero, suc, ◌+◌, ◌*◌, ◌/◌, ◌%◌, ◌^◌, ◌≤◌, ◌<◌, Bool, true, false, List, [], ◌∷◌, ◌++◌, ◌≡◌, refl, sym, ap, ◌∙◌, arith, ltb-true, ltb-false, length, length-append, fold, ltb, get_or}
use Rattle.std.specs.Fmt
use Rattle.std.proofs.lemmas.Bool.{cases_lt}
use Rattle.std.proofs.lemmas.Fmt.{decimal_by_steps}
use Rattle.output.specs.Number.{digit, digits, decimal, integer, value_in_base, digit_value}

digits_one : (k n : ℕ) → n < 10 → digits k (ltb n 10) n ≡ digit n ∷ []
unfolding digits
digits_one k n h = grind arith

digits_more : (k n : ℕ) → 10 ≤ n → digits (suc k) (ltb n 10) n ≡ digits k (ltb (n / 10) 10) (n / 10) ++ digit (n % 10) ∷ []
unfolding digits
digits_more k n h = grind arith

-- enough is enough
digits_enough : (k j n : ℕ) → n ≤ k → n ≤ j → digits k (ltb n 10) n ≡ digits j (ltb n 10) n
digits_enough zero j n h l = digits_one zero n (omega arith) ∙ sym (digits_one j n (omega arith))
digits_enough (suc k) zero n h l = digits_one (suc k) n (omega arith) ∙ sym (digits_one zero n (omega arith))
digits_enough (suc k) (suc j) n h l = grind (arith, cases_lt n 10, digits_one (suc k) n, digits_one (suc j) n, digits_more k n, digits_more j n, digits_enough k j (n / 10))

pub decimal_one : (n : ℕ) → n < 10 → decimal n ≡ digit n ∷ []
unfolding decimal
decimal_one n h = grind (arith, digits_one)

pub decimal_more : (n : ℕ) → 10 ≤ n → decimal n ≡ decimal (n / 10) ++ digit (n % 10) ∷ []
unfolding decimal
decimal_more zero h = grind arith
decimal_more (suc m) h = grind (arith, digits_more, digits_enough)

pub decimal_two : (n : ℕ) → 10 ≤ n → n < 100 → decimal n ≡ digit (n / 10) ∷ digit (n % 10) ∷ []
decimal_two n h k = grind (arith, decimal_more, decimal_one)

-- what holds of a number with one digit, and of a number by what holds of its tenth, holds of every number
module _ (P : ℕ → List ℕ → Type 0) (one : (n : ℕ) → n < 10 → P n (digit n ∷ []))
    (more : (n : ℕ) → 10 ≤ n → (ds : List ℕ) → P (n / 10) ds → P n (ds ++ digit (n % 10) ∷ [])) where
  digits_by : (k n : ℕ) → n ≤ k → P n (digits k (ltb n 10) n)
  unfolding digits
  digits_by zero n h = one n (omega arith)
  digits_by (suc k) n h = go (ltb n 10) refl (digits_by k (n / 10))
    where
      go : (b : Bool) → ltb n 10 ≡ b → (n / 10 ≤ k → P (n / 10) (digits k (ltb (n / 10) 10) (n / 10))) → P n (digits (suc k) b n)
      go true e f = one n (ltb-true n 10 e)
      go false e f =
          let l : 10 ≤ n = ltb-false n 10 e in
          more n l (digits k (ltb (n / 10) 10) (n / 10)) (f (omega arith))

  pub decimal_by : (n : ℕ) → P n (decimal n)
  unfolding decimal
  decimal_by n = grind (arith, digits_by)

-- ---- the digits are those of the number

value_snoc : (v : ℕ) (ds : List ℕ) (d : ℕ)
    → fold (λ (x e : ℕ). x * 10 + digit_value e) v (ds ++ d ∷ []) ≡ fold (λ (x e : ℕ). x * 10 + digit_value e) v ds * 10 + digit_value d
value_snoc v [] d = refl
value_snoc v (e ∷ ds) d = grind (arith, value_snoc (v * 10 + digit_value e) ds d)

pub decimal_value : (n : ℕ) → value_in_base 10 digit_value (decimal n) ≡ n
decimal_value =
    decimal_by (λ n ds. value_in_base 10 digit_value ds ≡ n) (λ n h. omega arith)
    (λ n h ds e. value_snoc 0 ds (digit (n % 10)) ∙ rw e (omega arith))

-- the first is not 0, unless the number is 0
pub decimal_lead : (n : ℕ) → 0 < n → ¬ (get_or (decimal n) 0 (code "0") ≡ code "0")
decimal_lead = decimal_by (λ n ds. 0 < n → ¬ (get_or ds 0 48 ≡ 48)) (λ n h l q. omega arith) longer
  where
    longer : (n : ℕ) → 10 ≤ n → (ds : List ℕ) → (0 < n / 10 → ¬ (get_or ds 0 48 ≡ 48)) → 0 < n → ¬ (get_or (ds ++ digit (n % 10) ∷ []) 0 48 ≡ 48)
    longer n h [] f l q = f (omega arith) refl
    longer n h (d ∷ ds) f l q = f (omega arith) q

-- ---- how many there are

pub decimal_few : (n w : ℕ) → n < 10 ^ suc w → length (decimal n) ≤ suc w
decimal_few = decimal_by (λ n ds. (w : ℕ) → n < 10 ^ suc w → length ds ≤ suc w) (λ n h w l. omega arith) longer
  where
    longer : (n : ℕ) → 10 ≤ n → (ds : List ℕ) → ((w : ℕ) → n / 10 < 10 ^ suc w → length ds ≤ suc w) → (w : ℕ) → n < 10 ^ suc w → length (ds ++ digit (n % 10) ∷ []) ≤ suc w
    longer n h ds f zero l = absurd (omega arith)
    longer n h ds f (suc w) l = omega (arith, length-append ds (digit (n % 10) ∷ []), f w (omega arith))

-- a number of 64 bits has at most twenty
pub decimal_short : (n : ℕ) → n < 2 ^ 64 → length (decimal n) ≤ 20
decimal_short n h = decimal_few n 19 (omega arith)

-- std's digits of a number of 64 bits are the same
pub decimal_same : (n : ℕ) → n < 2 ^ 64 → Fmt.decimal n ≡ decimal n
decimal_same = decimal_by_steps (λ n ds. ds ≡ decimal n) (λ n h. sym (decimal_one n h)) longer
  where
    longer : (n : ℕ) (ds : List ℕ) → 10 ≤ n → ds ≡ decimal (n / 10) → ds ++ (48 + n % 10) ∷ [] ≡ decimal n
    longer n ds h e = ap (λ (xs : List ℕ). xs ++ (48 + n % 10) ∷ []) e ∙ sym (decimal_more n h)

pub integer_same : (k : ℤ) → FitsSigned w32 k → Fmt.signed_decimal k ≡ integer k
integer_same (pos n) h = grind (arith, decimal_same)
integer_same (negsuc n) h = grind (arith, decimal_same)
