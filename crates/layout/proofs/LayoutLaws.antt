-- Laws of the words of a line: their number, and writing them one after the other.
use Rattle.std.proofs.Common.{◌≡◌, ℕ, suc, ◌+◌, ◌-◌, ◌*◌, ◌/◌, ◌<◌, ◌≤◌, List, [], ◌∷◌, ◌++◌, length, get_or, drop, sym, refl, ap, ◌∙◌, ap₂, arith, length-append, length-drop, drop_of_length-le, drop-cons, add-one}
use Rattle.layout.specs.Steps.Size.{operand_size, comparisons_size, condition_size}
use Rattle.policy.specs.Line.{PolicyLine, heads_of, comparisons_of, ending_of, operand_constants, constant_count}
use Rattle.policy.specs.declared.comparison.Comparison.{Comparison}
use Rattle.policy.specs.declared.comparison.Operand.{Operand}
use Rattle.policy.specs.declared.line.Ending.{Ending}
use Rattle.policy.specs.declared.line.Test.{Test}
use Rattle.word.proofs.WriteLaws.{put_append, put_none}
use Rattle.operation.specs.Parts.{test_word, constant_words, comparison_words, ending_word}
use Rattle.word.specs.Steps.Write.{put_words}
use Rattle.layout.specs.Layout.{condition_words, part_words, line_words}
use Rattle.layout.specs.Steps.Heads.{head_words}

-- ---- how many words

pub comparison_length_is : (c : Comparison) (skip : ℕ) → length (comparison_words c skip) ≡ operand_size c.operand
unfolding comparison_words constant_words
comparison_length_is c skip = grind arith

operand_size_limit : (o : Operand) → (1 ≤ operand_size o) × (operand_size o ≤ 2)
operand_size_limit o = grind arith

pub operand_counted : (o : Operand) → operand_size o ≡ 1 + operand_constants o
operand_counted o = grind arith

pub condition_length : (cs : List Comparison) (e : Ending) → length (condition_words cs e) ≡ condition_size cs
unfolding condition_words condition_size comparisons_size
condition_length [] e = refl
condition_length (c ∷ cs) e =
    let n : ℕ = length (condition_words cs e) in
    omega (arith, length-append (comparison_words c n) (condition_words cs e), comparison_length_is c n, condition_length cs e)

pub condition_size_limit : (cs : List Comparison) → (1 ≤ condition_size cs) × (condition_size cs ≤ 1 + 2 * length cs)
unfolding condition_size comparisons_size
condition_size_limit [] = omega arith
condition_size_limit (c ∷ cs) =
    let h = operand_size_limit c.operand in
    let k = condition_size_limit cs in
    omega arith

pub part_length : (ts : List Test) (cs : List Comparison) (e : Ending) → length (part_words ts cs e) ≡ length ts + condition_size cs
unfolding part_words
part_length [] cs e = let h = condition_length cs e in omega arith
part_length (t ∷ ts) cs e = let h = part_length ts cs e in omega arith

-- the heads, and the rest
pub part_split : (ts : List Test) (cs : List Comparison) (e : Ending) → head_words ts (length ts + condition_size cs) ++ condition_words cs e ≡ part_words ts cs e
unfolding part_words head_words
part_split [] cs e = refl
part_split (t ∷ ts) cs e =
    let n : suc (length ts) + condition_size cs - 1 ≡ length ts + condition_size cs = omega arith in
    ap₂ (λ (k : ℕ) (ws : List ℕ). test_word t k ∷ ws) (n ∙ sym (part_length ts cs e))
    (ap (λ (k : ℕ). head_words ts k ++ condition_words cs e) n ∙ part_split ts cs e)

pub head_length : (ts : List Test) (size : ℕ) → length (head_words ts size) ≡ length ts
unfolding head_words
head_length [] size = refl
head_length (t ∷ ts) size = ap suc (head_length ts (size - 1))

-- ---- the next comparison, the next head

pub condition_next : (cs : List Comparison) (e : Ending) (i : ℕ) (d : Comparison) → i < length cs
    → condition_words (drop i cs) e ≡ comparison_words (get_or cs i d) (condition_size (drop (i + 1) cs)) ++ condition_words (drop (i + 1) cs) e
unfolding condition_words
condition_next cs e i d h =
    let s : i + 1 ≡ suc i = omega arith in
    rw (s, drop-cons cs i d h, condition_length (drop (suc i) cs) e)

-- the first part shows `grind` the call to match
pub condition_size_next : (cs : List Comparison) (i : ℕ) (d : Comparison) → i < length cs → (get_or cs i d ≡ get_or cs i d) × (condition_size (drop i cs) ≡ operand_size (get_or cs i d).operand + condition_size (drop (i + 1) cs))
unfolding condition_size comparisons_size
condition_size_next cs i d h = (refl, rw (add-one i, drop-cons cs i d h) (omega arith))

pub condition_small : (cs : List Comparison) (i : ℕ) → condition_size (drop i cs) ≤ 1 + 2 * length cs
condition_small cs i = omega (arith, condition_size_limit (drop i cs), length-drop i cs)

pub condition_step : (buffer : List ℕ) (at : ℕ) (cs : List Comparison) (e : Ending) (i words k : ℕ) (d : Comparison) → i < length cs → k ≡ condition_size (drop (i + 1) cs) → words ≡ operand_size (get_or cs i d).operand → at + words + k ≤ length buffer / 4
    → put_words (put_words buffer at (comparison_words (get_or cs i d) k)) (at + words) (condition_words (drop (i + 1) cs) e) ≡ put_words buffer at (condition_words (drop i cs) e)
condition_step buffer at cs e i words k d h q n room =
    rw (condition_next cs e i d h, ← q, n, ← comparison_length_is (get_or cs i d) k)
    (put_append buffer at (comparison_words (get_or cs i d) k) (condition_words (drop (i + 1) cs) e) (omega (arith, comparison_length_is (get_or cs i d) k, condition_length (drop (i + 1) cs) e)))

pub condition_end : (buffer : List ℕ) (at : ℕ) (cs : List Comparison) (e : Ending) (i : ℕ) → length cs ≤ i → put_words buffer at (condition_words (drop i cs) e) ≡ put_words buffer at (ending_word e ∷ [])
unfolding condition_words
condition_end buffer at cs e i h = rw (drop_of_length-le cs h)

pub heads_step : (buffer : List ℕ) (at : ℕ) (ts : List Test) (i left : ℕ) (d : Test) → i < length ts → length ts ≤ left + i → at + left ≤ length buffer / 4
    → put_words (put_words buffer at (test_word (get_or ts i d) (left - 1) ∷ [])) (at + 1) (head_words (drop (i + 1) ts) (left - 1)) ≡ put_words buffer at (head_words (drop i ts) left)
unfolding head_words
heads_step buffer at ts i left d h l room =
    rw (add-one i, drop-cons ts i d h)
    (put_append buffer at (test_word (get_or ts i d) (left - 1) ∷ []) (head_words (drop (suc i) ts) (left - 1)) (omega (arith, head_length (drop (suc i) ts) (left - 1), length-drop (suc i) ts)))

pub heads_end : (buffer : List ℕ) (at : ℕ) (ts : List Test) (i left : ℕ) → length ts ≤ i → put_words buffer at (head_words (drop i ts) left) ≡ buffer
unfolding head_words
heads_end buffer at ts i left h = rw (drop_of_length-le ts h, put_none buffer at)

-- a word, and the constant behind it
pub put_constant : (buffer : List ℕ) (index w k : ℕ) → index + 2 ≤ length buffer / 4 → put_words (put_words buffer index (w ∷ [])) (index + 1) (k ∷ []) ≡ put_words buffer index (w ∷ k ∷ [])
put_constant buffer index w k h = put_append buffer index (w ∷ []) (k ∷ []) (omega arith)

-- ---- the whole line

condition_counted : (cs : List Comparison) → condition_size cs ≡ length cs + constant_count cs + 1
unfolding condition_size comparisons_size constant_count
condition_counted [] = refl
condition_counted (c ∷ cs) = omega (arith, operand_counted c.operand, condition_counted cs)

module _ (line : PolicyLine) (constants : ℕ) (ek : constants ≡ constant_count (comparisons_of line)) where
  pub rest_counted : length (comparisons_of line) + constants + 1 ≡ condition_size (comparisons_of line)
  rest_counted = omega (arith, condition_counted (comparisons_of line), ek)

  -- the words of the heads
  abbrev first : List ℕ
  first = head_words (heads_of line) (length (heads_of line) + condition_size (comparisons_of line))

  pub line_counted : length (heads_of line) + (length (comparisons_of line) + constants + 1) ≡ length (line_words line)
  unfolding line_words
  line_counted = omega (arith, part_length (heads_of line) (comparisons_of line) (ending_of line), rest_counted)

  pub line_put : (buffer buffer₁ buffer₂ : List ℕ) (index : ℕ) → index + (length (heads_of line) + (length (comparisons_of line) + constants + 1)) ≤ length buffer / 4
      → buffer₁ ≡ put_words buffer index (head_words (heads_of line) (length (heads_of line) + (length (comparisons_of line) + constants + 1)))
      → buffer₂ ≡ put_words buffer₁ (index + length (heads_of line)) (condition_words (comparisons_of line) (ending_of line))
      → buffer₂ ≡ put_words buffer index (line_words line)
  unfolding line_words
  line_put buffer buffer₁ buffer₂ index h e₁ e₂ =
      let n : length first ≡ length (heads_of line) = head_length (heads_of line) (length (heads_of line) + condition_size (comparisons_of line)) in
      let room = put_append buffer index first (condition_words (comparisons_of line) (ending_of line)) (omega (arith, n, condition_length (comparisons_of line) (ending_of line), rest_counted)) in
      rw (e₂, e₁, rest_counted, ← part_split (heads_of line) (comparisons_of line) (ending_of line)) (rw n at room)

pub tail_small : (cs : List Comparison) (e : Ending) → length cs ≤ 4 → (0 < length (condition_words cs e)) × (length (condition_words cs e) < 24)
tail_small cs e l = omega (arith, condition_length cs e, condition_size_limit cs)
