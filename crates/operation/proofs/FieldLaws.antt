-- Laws of the fields of a word: packing and unpacking.
use Rattle.std.proofs.Common.{ℕ, ◌/◌, ◌%◌, ◌^◌, ◌<◌, ◌≡◌, ◌∙◌, arith}
use Rattle.word.proofs.WordLaws.{parts, lowest}
use Rattle.word.specs.Word.{word_limit}
use Rattle.operation.proofs.OperationLaws.{opcode_below, operation_back, operation_number}
use Rattle.operation.specs.Fields.{pack, opcode_of, first_of, second_of, relation_code_of, skip_of, operation_of}
use Rattle.operation.specs.Operation.{opcode}
use Rattle.operation.specs.declared.operation.Operation.{Operation}

-- the fields of a word that was packed
pub record Packed (o : Operation) (first second relation skip w : ℕ) : Type 0 where
  pub below : w < word_limit
  pub operation : operation_of w ≡ o
  pub first_is : first_of w ≡ first
  pub second_is : second_of w ≡ second
  pub relation_is : relation_code_of w ≡ relation
  pub skip_is : skip_of w ≡ skip
  -- below the relation
  pub low : w % 2 ^ 13 ≡ skip

pub packed : (o : Operation) (first second relation skip : ℕ) → first < 64 → second < 64 → relation < 8 → skip < 32 → Packed o first second relation skip (pack o first second relation skip)
unfolding pack
packed o first second relation skip f s r k = grind (arith, opcode_below, operation_back)

pub head_low : (o : Operation) (first skip : ℕ) → skip < 32 → pack o first 0 0 skip % 2 ^ 22 ≡ skip
unfolding pack
head_low o first skip h = omega arith

pub pack_fields : (w : ℕ) → w < word_limit → opcode (operation_of w) ≡ opcode_of w → w / 2 ^ 5 % 2 ^ 8 ≡ 0 → pack (operation_of w) (first_of w) (second_of w) (relation_code_of w) (skip_of w) ≡ w
unfolding pack
pack_fields w h known z = grind arith

-- ---- words put together again from what a scan tests

module _ (o : Operation) (w : ℕ) (known : 0 < opcode o) (h : w < word_limit) (e : operation_of w ≡ o) where
  top : w / 2 ^ 28 ≡ opcode o
  top = let k : w / 2 ^ 28 ≡ opcode_of w = omega arith in k ∙ operation_number (opcode_of w) o known e

  pub head_again : (left : ℕ) → w % 2 ^ 22 ≡ left → pack o (first_of w) 0 0 left ≡ w
  unfolding pack
  head_again left q = omega (arith, top, lowest w 22, parts w 22 6)

  pub comparison_again : (low : ℕ) → w % 2 ^ 13 ≡ low → pack o (first_of w) (second_of w) (relation_code_of w) low ≡ w
  unfolding pack
  comparison_again low q = omega (arith, top, lowest w 13, parts w 13 3, parts w 16 6, parts w 22 6)
