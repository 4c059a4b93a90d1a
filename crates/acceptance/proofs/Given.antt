-- The readings of an accepted epoch line: one that it gives has the value that stands there, and no other is given.
use Rattle.std.proofs.lemmas.Bool.Decides.{nat_tests}
use Rattle.std.proofs.Common.{ℕ, zero, suc, ◌<◌, true, false, List, [], ◌∷◌, Contains, ◌≢◌, ◌≡◌, refl, ap, ◌∙◌, arith, ℤ, length, length-set, slice_get, lt-length-set, get_or-set_same, Some, fold, Ok, eqb, set}
use Rattle.std.proofs.lemmas.Bool.{and_parts}
use Rattle.std.proofs.lemmas.Option.{slice_get-get_or}
use Rattle.policy.proofs.ListLaws.{contains_cases}
use Rattle.policy.proofs.SetLaws.{has_empty, has_insert_same, has_insert_other}
use Rattle.policy.specs.Epoch.{reading_value}
use Rattle.policy.specs.declared.epoch.Epoch.{Epoch}
use Rattle.policy.specs.Limits.{repeats}
use Rattle.std.specs.List.{list_all, list_any}
use Rattle.policy.specs.Number.{reading_limit}
use Rattle.policy.specs.Set.{has_reading}
use Rattle.epoch_line.specs.Epoch.{Item, event, value, items_of, item_in_range, given_by, add_item, empty_epoch, judge_epoch, read_epoch}
use Rattle.lexer.specs.Lines.{tokens_of}

-- ---- one place more

value_set_same : (vs : List ℤ) (n : ℕ) (k : ℤ) → n < length vs → slice_get (set vs n k) n ≡ Some k
value_set_same vs n k h = slice_get-get_or (set vs n k) n k (lt-length-set vs n k h) ∙ ap Some (get_or-set_same vs n k k h)

value_set_other : (vs : List ℤ) (m n : ℕ) (k : ℤ) → n ≢ m → slice_get (set vs m k) n ≡ slice_get vs n
value_set_other [] m n k h = refl
value_set_other (v ∷ vs) zero zero k h = absurd (h refl)
value_set_other (v ∷ vs) zero (suc n) k h = refl
value_set_other (v ∷ vs) (suc m) zero k h = refl
value_set_other (v ∷ vs) (suc m) (suc n) k h = value_set_other vs m n k (λ e. h (ap suc e))

-- ---- what the items of a line add to an epoch

module _ (n : ℕ) where
  -- items that do not give the reading
  module _ {A : Type 0} (look : Epoch → A) (events : (e : Epoch) (m : ℕ) → look (add_item e (event m)) ≡ look e) (values : (e : Epoch) (m : ℕ) (k : ℤ) → n ≢ m → look (add_item e (value m k)) ≡ look e) where
    kept : (is : List Item) (e : Epoch) → list_any (eqb n) (given_by is) ≡ false → look (fold add_item e is) ≡ look e
    unfolding given_by
    kept [] e h = refl
    kept (event m ∷ is) e h = kept is (add_item e (event m)) h ∙ events e m
    kept (value m k ∷ is) e h = grind (arith, nat_tests, kept is (add_item e (value m k)), values e m k)

  given_kept : (is : List Item) (e : Epoch) → list_any (eqb n) (given_by is) ≡ false → has_reading (fold add_item e is).readings.given (record { 0 = n }) ≡ has_reading e.readings.given (record { 0 = n })
  unfolding add_item
  given_kept = kept (λ (e : Epoch). has_reading e.readings.given (record { 0 = n })) (λ e m. refl) (λ e m k h. has_insert_other e.readings.given.bits m n h)

  value_kept : (is : List Item) (e : Epoch) → list_any (eqb n) (given_by is) ≡ false → reading_value (fold add_item e is).readings (record { 0 = n }) ≡ reading_value e.readings (record { 0 = n })
  unfolding add_item reading_value
  value_kept =
      kept (λ (e : Epoch). reading_value e.readings (record { 0 = n })) (λ e m. refl)
      (λ e m k h. rw (has_insert_other e.readings.given.bits m n h, value_set_other e.readings.values m n k h))

  places : (e : Epoch) (i : Item) → length (add_item e i).readings.values ≡ length e.readings.values
  unfolding add_item
  places e i = grind (arith, length-set)

  -- an item that gives it, the only one
  module _ (k : ℤ) where
    added : (e : Epoch) → length e.readings.values ≡ reading_limit → item_in_range (value n k) ≡ true → reading_value (add_item e (value n k)).readings (record { 0 = n }) ≡ Some k
    unfolding add_item reading_value item_in_range
    added e l h = grind (arith, has_insert_same, value_set_same)

    abbrev Gives : Epoch → List Item → Type 0
    Gives e is = reading_value (fold add_item e is).readings (record { 0 = n }) ≡ Some k

    fewer : (i : Item) (is : List Item) → repeats (given_by (i ∷ is)) ≡ false → repeats (given_by is) ≡ false
    unfolding given_by repeats
    fewer i is u = grind arith

    first : (is : List Item) (e : Epoch) → length e.readings.values ≡ reading_limit → list_all item_in_range (value n k ∷ is) ≡ true → repeats (given_by (value n k ∷ is)) ≡ false
        → Gives e (value n k ∷ is)
    unfolding given_by repeats
    first is e l r u = grind (arith, value_kept is (add_item e (value n k)), added e)

    gives : (is : List Item) (e : Epoch) → length e.readings.values ≡ reading_limit → list_all item_in_range is ≡ true → repeats (given_by is) ≡ false → Contains is (value n k) → Gives e is
    gives [] e l r u m = absurd (omega (arith, m.1))
    gives (i ∷ is) e l r u m = grind (arith, contains_cases, first, places, and_parts, fewer, gives is (add_item e i))

-- ---- an accepted line

module _ (e : Epoch) where
  pub record Read (is : List Item) : Type 0 where
    pub ranges : list_all item_in_range is ≡ true
    pub once : repeats (given_by is) ≡ false
    pub whole : fold add_item empty_epoch is ≡ e

  pub items_read_is : (line : List ℕ) (is : List Item) → items_of (tokens_of line) ≡ Some is → read_epoch line ≡ Ok e → Read is
  unfolding read_epoch judge_epoch
  items_read_is line is some_is h = grind arith

  module _ (line : List ℕ) (is : List Item) (shape : items_of (tokens_of line) ≡ Some is) (taken : read_epoch line ≡ Ok e) where
    read : Read is
    read = items_read_is line is shape taken

    -- `R4=0` gives R4 the value 0
    pub line_gives : (n : ℕ) (k : ℤ) → Contains is (value n k) → reading_value e.readings (record { 0 = n }) ≡ Some k
    line_gives n k m = rw read.whole at (gives n k is empty_epoch refl read.ranges read.once m)

    -- a reading of which the line has no value is not given
    pub line_lacks : (n : ℕ) → list_any (eqb n) (given_by is) ≡ false → has_reading e.readings.given (record { 0 = n }) ≡ false
    line_lacks n h = rw read.whole at (given_kept n is empty_epoch h) ∙ has_empty n
