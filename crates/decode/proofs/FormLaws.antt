-- One comparison of a word that was turned tests all of its fields but its numbers.
use Rattle.std.proofs.Common.{ℕ, ◌+◌, ◌-◌, ◌*◌, ◌/◌, ◌%◌, ◌^◌, ◌≤◌, ◌<◌, true, false, cond, ◌&&◌, ◌||◌, ◌⊎◌, ◌≡◌, refl, arith, ltb, leb, eqb}
use Rattle.std.proofs.lemmas.Bool.Decides.{leb_tells, nat_tests}
use Rattle.policy.specs.declared.line.Part.{Part}
use Rattle.line_value.specs.Value.{fits}
use Rattle.word.specs.Word.{word_limit}
use Rattle.operation.proofs.OperationLaws.{operation_there, operation_high}
use Rattle.operation.specs.Fields.{pack, operation_of, opcode_of, first_of, second_of, relation_code_of}
use Rattle.operation.specs.Operation.{opcode}
use Rattle.operation.specs.Said.{says_by, says}
use Rattle.operation.specs.Parts.{effect_operation, ending_word, constant_comparison, reading_comparison}
use Rattle.operation.specs.declared.operation.Operation.{Operation}
use Rattle.decode.specs.Steps.Scan.{less, number_lowest, relation_lowest, first_head, head_operations, first_ending, ending_numbers, is_head, is_trigger, is_ending, is_ending_of, head_sound, comparison_length, length_by, operand_length, constant_sound, reading_sound}
use Rattle.operation.specs.Whole.{ends}
use Rattle.policy.specs.Limits.{ending_allowed}
use Rattle.policy.specs.Effect.{effect_number}

-- ---- a word with nothing between its number and its skip

pub record Numbered (w operation skip t : ℕ) : Type 0 where
  pub low : w % 2 ^ 22 ≡ skip
  pub opcode : opcode_of w ≡ operation + t / 64
  pub number : first_of w ≡ t % 64

-- ---- what the operation of a word says, by its number

-- a number past those of operations says what 0 does
opcode_known : (w : ℕ) → (opcode (operation_of w) ≡ opcode_of w) ⊎ ((9 ≤ opcode_of w) × (opcode (operation_of w) ≡ 0))
opcode_known w = grind (arith, leb_tells, operation_high, operation_there)

-- the first operation of heads
abbrev base : Part → ℕ
base Part.Rules = 1
base Part.Constraints = 6

base_limit : (part : Part) → (0 < base part) × (base part < 9) × (head_operations part ≤ 2) × (base part + head_operations part ≤ 9)
base_limit part = grind arith

heads_by : (part : Part) (o : Operation) (w : ℕ) → is_head part (says_by o w 0) ≡ (leb (base part) (opcode o) && ltb (opcode o) (base part + head_operations part))
unfolding is_head fits says_by
heads_by part o w = grind (arith, nat_tests)

rules_end : (form : ℕ) (o : Operation) (w : ℕ) → is_ending_of form Part.Rules w (says_by o w 0) ≡ (eqb (opcode o) 5 && eqb w (5 * 2 ^ 28 + first_of w * 2 ^ 22) || leb 3 form && (eqb (opcode o) 8 && eqb w (8 * 2 ^ 28 + first_of w * 2 ^ 22)))
unfolding is_ending_of ends ending_word ending_allowed says_by pack effect_number effect_operation
rules_end form o w = grind (arith, nat_tests)

constraints_end : (form : ℕ) (o : Operation) (w : ℕ) → is_ending_of form Part.Constraints w (says_by o w 0) ≡ (eqb (opcode o) 7 && eqb w (7 * 2 ^ 28))
unfolding is_ending_of ends ending_word ending_allowed says_by pack
constraints_end form o w = grind (arith, nat_tests)

lengths_by : (o : Operation) (w left : ℕ) → length_by (says_by o w 0) w left ≡ cond (eqb (opcode o) 3 && constant_sound w left) 2 (cond (eqb (opcode o) 4 && reading_sound w left) 1 0)
unfolding length_by says_by operand_length constant_comparison reading_comparison
lengths_by o w left = grind (arith, nat_tests)

-- ---- heads

head_by : (part : Part) (w left t : ℕ) → w < word_limit → left < 32 → t ≡ number_lowest w (base part * 2 ^ 28 + left) → (t < 64 * head_operations part → (head_sound part w left ≡ true) × (t % 64 ≡ first_of w)) × (64 * head_operations part ≤ t → head_sound part w left ≡ false)
unfolding head_sound says
head_by part w left t h s e = grind (arith, base_limit, opcode_known, heads_by)

pub head_found : (part : Part) (w left : ℕ) → w < word_limit → left < 32 → number_lowest w (first_head part + left) < 64 * head_operations part → (head_sound part w left ≡ true) × (number_lowest w (first_head part + left) % 64 ≡ first_of w)
head_found Part.Rules w left h s l = (head_by Part.Rules w left _ h s refl).0 l
head_found Part.Constraints w left h s l = (head_by Part.Constraints w left _ h s refl).0 l

pub headless : (part : Part) (w left : ℕ) → w < word_limit → left < 32 → 64 * head_operations part ≤ number_lowest w (first_head part + left) → head_sound part w left ≡ false
headless Part.Rules w left h s l = (head_by Part.Rules w left _ h s refl).1 l
headless Part.Constraints w left h s l = (head_by Part.Constraints w left _ h s refl).1 l

-- ---- endings

-- a word with an operation and a number below n, and nothing else
plain : (w operation n : ℕ) → w < word_limit → operation < 9 → n ≤ 64 → ltb (number_lowest w (operation * 2 ^ 28 + 0)) n ≡ (eqb w (operation * 2 ^ 28 + first_of w * 2 ^ 22) && ltb (first_of w) n)
plain w operation n h o l = grind arith

ending_found : (form : ℕ) (part : Part) (w : ℕ) → w < word_limit → ltb (number_lowest w (first_ending part)) (ending_numbers part) || is_trigger form part w ≡ is_ending form part w
unfolding is_trigger is_ending says
ending_found form part w h = grind (arith, opcode_known, plain, rules_end, constraints_end)

pub ending_cases : (form : ℕ) (part : Part) (w : ℕ) → w < word_limit → (number_lowest w (first_ending part) < ending_numbers part → is_ending form part w ≡ true) × (ending_numbers part ≤ number_lowest w (first_ending part) → is_ending form part w ≡ is_trigger form part w)
ending_cases form part w h = let e = ending_found form part w h in grind (arith, nat_tests)

-- ---- comparisons

record Fields (w operation low r : ℕ) : Type 0 where
  opcode : opcode_of w ≡ operation
  first : first_of w < 16
  second_is : second_of w ≡ r / 2 ^ 16 % 64
  relation : relation_code_of w ≡ r / 2 ^ 13 % 8
  low_is : w % 2 ^ 13 ≡ low

-- what is left of a word with these fields
left_of : (w operation low : ℕ) → w < word_limit → operation < 9 → opcode_of w ≡ operation → w % 2 ^ 13 ≡ low → less w (operation * 2 ^ 28 + low) ≡ first_of w * 2 ^ 22 + second_of w * 2 ^ 16 + relation_code_of w * 2 ^ 13
left_of w operation low h o c l = grind arith

module _ (w left : ℕ) (h : w < word_limit) (s : left < 32) (t : ℕ) where
  pub constant_found : 1 < left → t ≡ relation_lowest w (3 * 2 ^ 28 + (left - 1)) → ltb (t % 512 + t / 8192 * 8192) 6 ≡ eqb (comparison_length w left) 2
  unfolding comparison_length says constant_sound
  constant_found m e = rw (lengths_by (operation_of w) w left) (let k = opcode_known w in grind (arith, nat_tests, tested, back))
    where
      r : ℕ
      r = less w (3 * 2 ^ 28 + (left - 1))

      tested : t % 512 + t / 8192 * 8192 < 6 → (opcode_of w ≡ 3) × (first_of w < 16) × (relation_code_of w < 6) × (second_of w ≡ 0) × (w % 2 ^ 13 + 1 ≡ left)
      tested l = grind arith

      back : opcode_of w ≡ 3 → first_of w < 16 → relation_code_of w < 6 → second_of w ≡ 0 → w % 2 ^ 13 + 1 ≡ left → t % 512 + t / 8192 * 8192 < 6
      back o f g z l = let x = left_of w 3 (left - 1) h (omega arith) o (omega arith) in omega arith

  pub reading_found : t ≡ relation_lowest w (4 * 2 ^ 28 + left) → ltb (t % 8 + t / 128 % 4 * 128 + t / 8192 * 8192) 6 ≡ eqb (comparison_length w left) 1
  unfolding comparison_length says reading_sound
  reading_found e = rw (lengths_by (operation_of w) w left) (let k = opcode_known w in grind (arith, nat_tests, tested, back))
    where
      r : ℕ
      r = less w (4 * 2 ^ 28 + left)

      tested : t % 8 + t / 128 % 4 * 128 + t / 8192 * 8192 < 6 → (opcode_of w ≡ 4) × (first_of w < 16) × (relation_code_of w < 6) × (second_of w < 16) × (w % 2 ^ 13 ≡ left)
      tested l = grind arith

      back : opcode_of w ≡ 4 → first_of w < 16 → relation_code_of w < 6 → second_of w < 16 → w % 2 ^ 13 ≡ left → t % 8 + t / 128 % 4 * 128 + t / 8192 * 8192 < 6
      back o f g z l = let x = left_of w 4 left h (omega arith) o l in omega arith
