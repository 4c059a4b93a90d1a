-- The table of relations: what each says of two values, by which of them is less.
use Rattle.std.proofs.Common.{ℕ, ◌/◌, ◌%◌, ◌^◌, ◌<◌, Bool, true, false, not, ◌&&◌, ◌≡◌, ap, ◌∙◌, arith, ℤ, nat_eq}
use Rattle.std.proofs.lemmas.Bool.Decides.{nat_tests}
use Rattle.std.proofs.lemmas.Bool.{agree_below, agree_below_at, true_from_ne_false, and_from}
use Rattle.std.specs.Int.Signed.{lt_z, le_z}
use Rattle.policy.proofs.RelationLaws.{eq_z_true}
use Rattle.policy.specs.Comparison.{eq_z, relation_holds}
use Rattle.policy.specs.declared.comparison.Relation.{Relation}
use Rattle.operation.specs.Operation.{relation_from}

-- ---- one of two values is less, or neither

le_is : (a b : ℤ) → le_z a b ≡ not (lt_z b a)
le_is a b = grind (arith, nat_tests)

pub one_less : (a b : ℤ) → lt_z a b ≡ true → lt_z b a ≡ false
one_less a b e = grind (arith, nat_tests)

pub other_less : (a b : ℤ) → lt_z a b ≡ false → (a ≡ b → ⊥) → lt_z b a ≡ true
unfolding eq_z
other_less a b l n = true_from_ne_false (lt_z b a) (λ g. n (eq_z_true a b (and_from _ _ (le_is a b ∙ ap not g) (le_is b a ∙ ap not l))))

-- ---- the table

abbrev by_less : Relation → Bool → Bool → Bool
by_less Relation.Equal less greater = not greater && not less
by_less Relation.NotEqual less greater = not (not greater && not less)
by_less Relation.Less less greater = less
by_less Relation.LessOrEqual less greater = not greater
by_less Relation.Greater less greater = greater
by_less Relation.GreaterOrEqual less greater = not less

holds_by_less : (r : Relation) (a b : ℤ) → relation_holds r a b ≡ by_less r (lt_z a b) (lt_z b a)
unfolding relation_holds eq_z
holds_by_less r a b = grind (arith, le_is)

-- what a table answers of two values, of which the one is less, or the other, or neither
pub by_table : (table : ℕ) (less greater : Bool)
    → agree_below (λ (n : ℕ). nat_eq (table / 2 ^ n % 2) 1) (λ (n : ℕ). by_less (relation_from (n % 8)) less greater) 32 ≡ true
    → (a b : ℤ) → lt_z a b ≡ less → lt_z b a ≡ greater
    → (n : ℕ) → n < 32 → nat_eq (table / 2 ^ n % 2) 1 ≡ relation_holds (relation_from (n % 8)) a b
by_table table less greater agree a b l g n h =
    agree_below_at (λ (k : ℕ). nat_eq (table / 2 ^ k % 2) 1) (λ (k : ℕ). by_less (relation_from (k % 8)) less greater) 32 n agree h
    ∙ rw (← l, ← g, holds_by_less (relation_from (n % 8)) a b)
