-- The words of the parts of a line, read back: what each word's fields say is the part that it was written from.
use Rattle.std.proofs.Common.{ℕ, ◌%◌, ◌^◌, ◌<◌, true, [], ◌∷◌, ◌≡◌, refl, arith, ltb-true, lt-ltb, to_z-of_z, w32, SFits, of_z}
use Rattle.std.proofs.lemmas.Bool.{and_from}
use Rattle.std.proofs.Math.Facts.{of_z-to_z, Fits-of_z}
use Rattle.policy.proofs.ConstantLaws.{reading_value_is, reading_limit_is}
use Rattle.policy.specs.Effect.{effect_number}
use Rattle.policy.specs.Limits.{test_number, operand_in_range, comparison_in_range, effect_in_range, ending_in_range}
use Rattle.policy.specs.declared.comparison.Comparison.{Comparison}
use Rattle.policy.specs.declared.comparison.Operand.{Operand}
use Rattle.policy.specs.declared.line.Ending.{Ending}
use Rattle.policy.specs.declared.line.Test.{Test}
use Rattle.operation.proofs.OperationLaws.{relation_back, relation_there, relation_below}
use Rattle.operation.proofs.FieldLaws.{Packed, packed, head_low, head_again, comparison_again}
use Rattle.std.proofs.lemmas.Bool.Decides.{nat_tests}
use Rattle.operation.specs.Operation.{opcode, relation_code}
use Rattle.operation.specs.Parts.{test_operation, test_word, operand_word, constant_words, comparison_word, comparison_words, effect_operation, ending_word, constant_comparison, reading_comparison}
use Rattle.word.specs.Word.{word_limit}
use Rattle.operation.specs.Fields.{operation_of, first_of, second_of, relation_code_of, skip_of}
use Rattle.operation.specs.declared.operation.Operation.{Operation}

-- ---- heads

module _ (t : Test) (k : ℕ) (h : test_number t < 64) (l : k < 32) where
  pub test_packed : Packed (test_operation t) (test_number t) 0 0 k (test_word t k)
  unfolding test_word
  test_packed = packed (test_operation t) (test_number t) 0 0 k h (omega arith) (omega arith) l

  pub test_below : test_word t k < word_limit
  test_below = test_packed.below

  pub test_skip : skip_of (test_word t k) ≡ k
  test_skip = test_packed.skip_is

  pub test_first : first_of (test_word t k) ≡ test_number t
  test_first = test_packed.first_is

  pub test_low : test_word t k % 2 ^ 22 ≡ k
  unfolding test_word
  test_low = head_low (test_operation t) (test_number t) k l

-- ---- comparisons

-- the fields of a word that compares, with its skip
pub record Compares (o : Operation) (w k : ℕ) : Type 0 where
  pub limit : w < word_limit
  pub operation : operation_of w ≡ o
  pub first : first_of w < 16
  pub relation : relation_code_of w < 6
  pub low : w % 2 ^ 13 ≡ k

-- how a comparison is written: with its constant behind it, or in one word
pub data Written (c : Comparison) (k : ℕ) : Type 0 where
  with_constant : (w v : ℕ) → comparison_words c k ≡ w ∷ v ∷ [] → operation_of w ≡ Operation.AgainstConstant → skip_of w ≡ k → constant_comparison w v ≡ c → Compares Operation.AgainstConstant w k → (second_of w ≡ 0) × (v < word_limit) → Written c k
  with_reading : (w : ℕ) → comparison_words c k ≡ w ∷ [] → operation_of w ≡ Operation.AgainstReading → skip_of w ≡ k → reading_comparison w ≡ c → Compares Operation.AgainstReading w k → second_of w < 16 → Written c k

-- a word that was packed compares
compares : (o : Operation) (f s r k w : ℕ) → f < 16 → r < 6 → Packed o f s r k w → Compares o w k
compares o f s r k w a b p = record { limit = p.below; operation = p.operation; first = rw p.first_is a; relation = rw p.relation_is b; low = p.low }

in_range_out : (c : Comparison) → comparison_in_range c ≡ true → (c.reading.0 < 16) × (operand_in_range c.operand ≡ true)
unfolding comparison_in_range
in_range_out c e = grind (arith, nat_tests)

pub written : (c : Comparison) (k : ℕ) → comparison_in_range c ≡ true → k < 32 → Written c k
unfolding operand_in_range comparison_words comparison_word operand_word constant_words constant_comparison reading_comparison
written c k e l = let i = in_range_out c e in go c.operand refl i.0 i.1
  where
    code : relation_code c.relation < 6
    code = relation_below c.relation

    go : (o : Operand) → c.operand ≡ o → c.reading.0 < 16 → operand_in_range c.operand ≡ true → Written c k
    go (Operand.Constant v) q h i =
        let p = packed Operation.AgainstConstant c.reading.0 0 (relation_code c.relation) k (omega arith) (omega arith) (omega (arith, code)) l in
        let f : SFits w32 v = reading_value_is v (rw q at i) in
        with_constant _ (of_z w32 v) (rw q) p.operation p.skip_is (rw (p.first_is, p.relation_is, relation_back c.relation, to_z-of_z f, ← q)) (compares _ _ _ _ k _ h code p) (p.second_is, (Fits-of_z f).fits)
    go (Operand.Reading o) q h i =
        let n : o.0 < 16 = ltb-true o.0 16 (rw q at i) in
        let p = packed Operation.AgainstReading c.reading.0 o.0 (relation_code c.relation) k (omega arith) (omega arith) (omega (arith, code)) l in
        with_reading _ (rw q) p.operation p.skip_is (rw (p.first_is, p.relation_is, relation_back c.relation, p.second_is, ← q)) (compares _ _ _ _ k _ h code p) (rw p.second_is n)

-- ---- endings

-- the number of what a line yields; `never` has none
abbrev pub ending_number : Ending → ℕ
ending_number (Ending.Yields x) = effect_number x
ending_number Ending.Never = 0

abbrev pub ending_operation : Ending → Operation
ending_operation (Ending.Yields x) = effect_operation x
ending_operation Ending.Never = Operation.Never

pub ending_packed : (e : Ending) → ending_in_range e ≡ true → Packed (ending_operation e) (ending_number e) 0 0 0 (ending_word e)
unfolding ending_word ending_in_range effect_in_range
ending_packed e h = grind (arith, packed, ltb-true)

pub ending_skip : (e : Ending) → ending_in_range e ≡ true → skip_of (ending_word e) ≡ 0
ending_skip e h = (ending_packed e h).skip_is

pub ending_below : (e : Ending) → ending_in_range e ≡ true → ending_word e < word_limit
ending_below e h = (ending_packed e h).below

-- ---- parts made of words, written again

test_known : (t : Test) → 0 < opcode (test_operation t)
unfolding test_operation
test_known t = grind arith

pub test_again : (t : Test) (w k : ℕ) → w < word_limit → w % 2 ^ 22 ≡ k → operation_of w ≡ test_operation t → test_number t ≡ first_of w → test_word t k ≡ w
unfolding test_word
test_again t w k h e p q = rw q (head_again (test_operation t) w (test_known t) h p k e)

pub constant_in_range : (w v k : ℕ) → Compares Operation.AgainstConstant w k → v < word_limit → comparison_in_range (constant_comparison w v) ≡ true
unfolding comparison_in_range operand_in_range constant_comparison
constant_in_range w v k h l = and_from _ _ (lt-ltb (first_of w) 16 h.first) (reading_limit_is v l)

pub constant_again : (w v k : ℕ) → Compares Operation.AgainstConstant w k → second_of w ≡ 0 → v < word_limit → comparison_words (constant_comparison w v) k ≡ w ∷ v ∷ []
unfolding comparison_words comparison_word operand_word constant_words constant_comparison
constant_again w v k h z l = grind (arith, comparison_again, relation_there, of_z-to_z)

pub reading_in_range : (w k : ℕ) → Compares Operation.AgainstReading w k → second_of w < 16 → comparison_in_range (reading_comparison w) ≡ true
unfolding comparison_in_range operand_in_range reading_comparison
reading_in_range w k h l = and_from _ _ (lt-ltb (first_of w) 16 h.first) (lt-ltb (second_of w) 16 l)

pub reading_again : (w k : ℕ) → Compares Operation.AgainstReading w k → comparison_words (reading_comparison w) k ≡ w ∷ []
unfolding comparison_words comparison_word operand_word constant_words reading_comparison
reading_again w k h = rw (relation_there (relation_code_of w) h.relation, comparison_again Operation.AgainstReading w (omega arith) h.limit h.operation k h.low)
