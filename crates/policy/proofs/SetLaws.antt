-- Laws of sets: what is a member of each, and that two sets with the same members are equal.
use Rattle.std.specs.Int.{trailing_zeros, bit_at}
use Rattle.std.proofs.Common.{ℕ, ◌+◌, ◌*◌, ◌/◌, ◌%◌, ◌^◌, ◌≤◌, ◌<◌, true, false, not, ◌&&◌, ◌||◌, ◌⊎◌, ◌≢◌, ◌≡◌, sym, mod-eq_of_lt, mod-lt, lt_of_lt_of_le, arith, w64, bit_and, bit_or, pow_pos, pow_mono, eqb, ◌-◌, ◌∙◌, shr-shr, refl}
use Rattle.std.proofs.Math.Nat.{div-eq_of_lt}
use Rattle.std.proofs.lemmas.Nat.{and_le_r, or_lt}
use Rattle.std.proofs.lemmas.Nat.Bits.{bit_at_and, bit_at_or, bit_at_xor, bit_at-pow_same, bit_at-pow_other, bit_at-lt, bit_at_above, bit_at_cat_low, bit_at-trailing_zeros, same_from_bits}
use Rattle.std.proofs.lemmas.Bool.Decides.{nat_tests}
use Rattle.policy.specs.Number.{set_limit}
use Rattle.policy.specs.Set.{has, insert, union, difference, below}

-- ---- an operation that goes bit by bit

has_or : (s t n : ℕ) → has (bit_or s t) n ≡ has s n || has t n
unfolding has
has_or s t n = grind (arith, nat_tests, bit_at_or s t n, bit_at-lt s n, bit_at-lt t n)

has_and : (s t n : ℕ) → has (bit_and s t) n ≡ has s n && has t n
unfolding has
has_and s t n = grind (arith, nat_tests, bit_at_and s t n, bit_at-lt s n, bit_at-lt t n)

pub has_union : (s t n : ℕ) → has (union s t) n ≡ has s n || has t n
has_union = has_or

pub has_difference : (s t n : ℕ) → has (difference s t) n ≡ has s n && not (has t n)
unfolding has
has_difference s t n = grind (arith, nat_tests, bit_at_xor s (bit_and s t) n, bit_at_and s t n, bit_at-lt s n, bit_at-lt t n)

pub has_empty : (n : ℕ) → has 0 n ≡ false
unfolding has
has_empty n = grind arith

-- ---- one member more

pub insert_in : (s n : ℕ) → n < set_limit → insert s n ≡ bit_or s (2 ^ n)
unfolding insert
insert_in s n h = grind arith

pub has_insert_same : (s n : ℕ) → n < set_limit → has (insert s n) n ≡ true
unfolding has
has_insert_same s n h = grind (arith, nat_tests, insert_in s n h, bit_at_or s (2 ^ n) n, bit_at-pow_same n, bit_at-lt s n)

pub has_insert_other : (s n m : ℕ) → m ≢ n → has (insert s n) m ≡ has s m
unfolding has insert
has_insert_other s n m h = grind (arith, nat_tests, bit_at_or s (2 ^ n) m, bit_at-pow_other n m h, bit_at-lt s m)

pub has_insert_old : (s n m : ℕ) → has s m ≡ true → has (insert s n) m ≡ true
unfolding insert
has_insert_old s n m h = grind (arith, has_or)

pub has_insert_cases : (s n m : ℕ) → has (insert s n) m ≡ true → (m ≡ n) ⊎ (has s m ≡ true)
has_insert_cases s n m h = grind (arith, has_insert_other)

-- ---- bounds

pub has_past : (s n : ℕ) → s < 2 ^ 64 → set_limit ≤ n → has s n ≡ false
unfolding has
has_past s n h k = grind (arith, bit_at_above s 64 n h k)

pub has_limit : (s : ℕ) → s < 2 ^ 64 → (n : ℕ) → has s n ≡ true → n < set_limit
has_limit s h n t = grind (arith, has_past)

pub insert_limit : (s n : ℕ) → s < 2 ^ 64 → insert s n < 2 ^ 64
unfolding insert
insert_limit s n h = grind (arith, or_lt 64 s (2 ^ n), pow_mono)

pub union_limit : (s t : ℕ) → s < 2 ^ 64 → t < 2 ^ 64 → union s t < 2 ^ 64
union_limit s t = or_lt 64 s t

-- ---- equality

bit_of : (s t n : ℕ) → has s n ≡ has t n → s / 2 ^ n % 2 ≡ t / 2 ^ n % 2
unfolding has
bit_of s t n h = grind arith

-- two sets with the same members are equal
pub set_ext : (s t : ℕ) → ((n : ℕ) → has s n ≡ has t n) → s ≡ t
set_ext s t h = same_from_bits s t (λ n. bit_of s t n (h n))

-- ---- the members under a number

pub has_below : (s n m : ℕ) → m < n → has (below s n) m ≡ has s m
unfolding has below
has_below s n m h = let e : s / 2 ^ n * 2 ^ n + s % 2 ^ n ≡ s = omega (arith, pow_pos n) in cc (bit_at_cat_low (s / 2 ^ n) n (s % 2 ^ n) m h)

pub has_below_past : (s n m : ℕ) → n ≤ m → has (below s n) m ≡ false
unfolding has below
has_below_past s n m h = grind (arith, bit_at_above (s % 2 ^ n) n m (mod-lt s (pow_pos n)) h)

-- every member of a set is under 64
pub below_all : (s n : ℕ) → s < 18446744073709551616 → 64 ≤ n → s ≡ below s n
unfolding below
below_all s n h k = sym (mod-eq_of_lt (lt_of_lt_of_le h (pow_mono k)))

-- ---- sets that meet have a member in common

lowest : (b : ℕ) → 0 < b → b < 2 ^ 64 → has b (trailing_zeros w64 b) ≡ true
unfolding has
lowest b h k = grind (arith, bit_at-trailing_zeros w64 b h k)

-- the lowest bit that is set is a member
pub meets_out : (s t : ℕ) → t < 2 ^ 64 → not (eqb (bit_and s t) 0) ≡ true → (n : ℕ) × (has s n ≡ true) × (has t n ≡ true)
meets_out s t small m = grind (arith, and_le_r s t, lowest (bit_and s t), has_and s t (trailing_zeros w64 (bit_and s t)))

pub meets_in : (s t n : ℕ) → has s n ≡ true → has t n ≡ true → not (eqb (bit_and s t) 0) ≡ true
meets_in s t n h k = grind (arith, has_and s t n, has_empty n)

-- ---- the members from a number on, by the bits that are left

module _ (bits n left : ℕ) (others : left ≡ bits / 2 ^ n) where
  pub others_next : (k : ℕ) → left / 2 ^ k ≡ bits / 2 ^ (n + k)
  others_next k = rw others (shr-shr bits n k)

  has_at : (i : ℕ) → n ≤ i → has bits i ≡ eqb (bit_at left (i - n)) 1
  unfolding has
  has_at i h = let same : n + (i - n) ≡ i = omega arith in cc (same, shr-shr bits n (i - n))

  pub none_left : left ≡ 0 → (i : ℕ) → n ≤ i → has bits i ≡ false
  none_left z i h = has_at i h ∙ rw (z, div-eq_of_lt (pow_pos (i - n))) refl

  module _ (some : left ≢ 0) (small : left < 2 ^ 64) where
    first_bit : (trailing_zeros w64 left < 64) × (bit_at left (trailing_zeros w64 left) ≡ 1) × ((i : ℕ) → i < trailing_zeros w64 left → bit_at left i ≡ 0)
    first_bit = bit_at-trailing_zeros w64 left (omega (arith, some)) small

    pub first_there : has bits (n + trailing_zeros w64 left) ≡ true
    first_there = let same : n + trailing_zeros w64 left - n ≡ trailing_zeros w64 left = omega arith in has_at _ (omega arith) ∙ rw (same, first_bit.1) refl

    pub none_before : (i : ℕ) → n ≤ i → i < n + trailing_zeros w64 left → has bits i ≡ false
    none_before i h k = has_at i h ∙ rw (first_bit.2 (i - n) (omega arith)) refl
