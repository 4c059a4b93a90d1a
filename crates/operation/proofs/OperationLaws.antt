-- Laws of operations and relations: their numbers, both ways.
use Rattle.std.proofs.Common.{ℕ, ◌≤◌, ◌<◌, true, ◌≡◌, refl, sym, arith, eqb-true, eqb}
use Rattle.std.proofs.lemmas.Bool.{agree_below_at}
use Rattle.std.proofs.lemmas.Bool.Decides.{nat_tests}
use Rattle.std.proofs.lemmas.List.{get_or_past}
use Rattle.policy.specs.declared.comparison.Relation.{Relation}
use Rattle.operation.specs.Operation.{opcode, operations, operation_from, relation_code, relations, relation_from}
use Rattle.operation.specs.declared.operation.Operation.{Operation}

pub relation_back : (r : Relation) → relation_from (relation_code r) ≡ r
unfolding relation_from
relation_back r = grind arith

pub relation_there : (n : ℕ) → n < 6 → relation_code (relation_from n) ≡ n
unfolding relation_from
relation_there n h = eqb-true _ _ (agree_below_at (λ (k : ℕ). eqb (relation_code (relation_from k)) k) (λ (k : ℕ). true) 6 n refl h)

pub relation_high : (n : ℕ) → 5 ≤ n → Relation.GreaterOrEqual ≡ relation_from n
unfolding relation_from
relation_high n h = sym (get_or_past relations n Relation.GreaterOrEqual h)

pub relation_below : (r : Relation) → relation_code r < 6
relation_below r = grind arith

-- the number of an operation fits its field
pub opcode_below : (o : Operation) → opcode o < 16
opcode_below o = grind arith

-- the numbers of operations, both ways: 0 stands for no operation
pub operation_back : (o : Operation) → operation_from (opcode o) ≡ o
unfolding operation_from
operation_back o = grind arith

pub operation_there : (n : ℕ) → n < 9 → opcode (operation_from n) ≡ n
unfolding operation_from
operation_there n h = eqb-true _ _ (agree_below_at (λ (k : ℕ). eqb (opcode (operation_from k)) k) (λ (k : ℕ). true) 9 n refl h)

pub operation_high : (n : ℕ) → 9 ≤ n → operation_from n ≡ Operation.Unknown
unfolding operation_from
operation_high n h = get_or_past operations n Operation.Unknown h

-- what has a number has no other
pub operation_number : (n : ℕ) (o : Operation) → 0 < opcode o → operation_from n ≡ o → n ≡ opcode o
operation_number n o h q = grind (arith, nat_tests, operation_there, operation_high)

-- what is not among the numbers is no operation
pub operation_other : (n : ℕ) → (0 < n → 9 ≤ n) → Operation.Unknown ≡ operation_from n
unfolding operation_from
operation_other n h = grind arith
