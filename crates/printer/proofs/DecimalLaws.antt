-- Reading the decimal digits of a number back yields it.
use Rattle.std.proofs.Common.{ℕ, zero, suc, ◌+◌, ◌*◌, ◌%◌, ◌<◌, true, false, List, [], ◌∷◌, ◌++◌, ◌≡◌, refl, ap, ◌∙◌, arith, ℤ, pos, fold, option_map, Some, None, eqb, get_or}
use Rattle.std.proofs.lemmas.Bool.{and_from}
use Rattle.std.proofs.lemmas.List.Folds.{list_all-append}
use Rattle.std.proofs.Math.Bool.{or-true}
use Rattle.std.proofs.lemmas.Bool.Decides.{nat_tests}
use Rattle.std.specs.List.{list_all}
use Rattle.lexer.specs.Byte.{is_digit}
use Rattle.lexer.specs.Token.{named}
use Rattle.lexer.specs.Number.{decimal_from, is_empty, number_of, negative, decimal_of, constant_of}
use Rattle.output.specs.Number.{digit, digits, decimal, digit_value}
use Rattle.output.proofs.DecimalLaws.{decimal_by, decimal_value, decimal_lead}
use Rattle.printer.specs.Printed.{constant_token}

-- ---- the digits are those of the number

decimal_fold : (v : ℕ) (ds : List ℕ) → decimal_from v ds ≡ fold (λ (x d : ℕ). x * 10 + digit_value d) v ds
unfolding decimal_from
decimal_fold v [] = refl
decimal_fold v (d ∷ ds) = decimal_fold (v * 10 + digit_value d) ds

one_digit : (n : ℕ) → n < 10 → list_all is_digit (digit n ∷ []) ≡ true
one_digit n h = grind (arith, nat_tests)

pub decimal_all : (n : ℕ) → list_all is_digit (decimal n) ≡ true
decimal_all =
    decimal_by (λ n ds. list_all is_digit ds ≡ true) one_digit
    (λ n h ds e. list_all-append is_digit ds (digit (n % 10) ∷ []) ∙ and_from _ _ e (one_digit (n % 10) (omega arith)))

pub decimal_some : (n : ℕ) → is_empty (decimal n) ≡ false
decimal_some = decimal_by (λ n ds. is_empty ds ≡ false) (λ n h. refl) (λ n h ds e. go ds (digit (n % 10)))
  where
    go : (ds : List ℕ) (d : ℕ) → is_empty (ds ++ d ∷ []) ≡ false
    go [] d = refl
    go (b ∷ ds) d = refl

led_read : (ds : List ℕ) → ¬ (get_or ds 0 48 ≡ 48) → list_all is_digit ds ≡ true → number_of ds ≡ Some (decimal_from 0 ds)
unfolding number_of
led_read ds z h = grind (arith, nat_tests, or-true)

zero_read : number_of (decimal 0) ≡ Some 0
unfolding decimal digits number_of decimal_from
zero_read = refl

pub number_read : (n : ℕ) → number_of (decimal n) ≡ Some n
number_read zero = zero_read
number_read (suc m) = led_read (decimal (suc m)) (decimal_lead (suc m) (omega arith)) (decimal_all (suc m)) ∙ ap Some (decimal_fold 0 (decimal (suc m)) ∙ decimal_value (suc m))

-- ---- digits are taken for nothing else

pub digit_not : (d b : ℕ) → is_digit d ≡ true → is_digit b ≡ false → eqb d b ≡ false
digit_not d b h k = grind (arith, nat_tests)

pub digits_unnamed : (letter : ℕ) (ds : List ℕ) → is_digit letter ≡ false → list_all is_digit ds ≡ true → named letter ds ≡ None
unfolding named
digits_unnamed letter ds h k = grind (arith, nat_tests, digit_not)

digits_constant : (ds : List ℕ) → list_all is_digit ds ≡ true → decimal_of ds ≡ option_map pos (number_of ds)
unfolding decimal_of number_of
digits_constant ds k = grind (arith, nat_tests)

decimal_read : (k : ℤ) → decimal_of (constant_token k) ≡ Some k
unfolding constant_token decimal_of negative
decimal_read k = grind (arith, digits_constant, decimal_all, number_read)

pub constant_read : (k : ℤ) → constant_of (constant_token k) ≡ Some k
unfolding constant_of
constant_read k = rw (decimal_read k)
