-- Going over a line: the words of a valid line pass, and what passes is a valid line.
use Rattle.std.proofs.Common.{ℕ, zero, suc, ◌+◌, ◌-◌, ◌%◌, ◌^◌, ◌≤◌, ◌<◌, true, false, cond, ◌&&◌, List, [], ◌∷◌, ◌++◌, map, append_assoc, ◌≡◌, refl, sym, ap, ap₂, ◌∙◌, arith, ltb-true, length, drop, length-append, eqb, get_or}
use Rattle.std.proofs.lemmas.Bool.{and_parts}
use Rattle.std.proofs.lemmas.Bool.Decides.{nat_tests}
use Rattle.policy.specs.Limits.{valid, test_number, comparison_in_range, ending_in_range, ending_allowed}
use Rattle.policy.specs.Line.{PolicyLine, ending_of, ending_part, line_part}
use Rattle.std.specs.List.{list_all}
use Rattle.policy.specs.declared.comparison.Comparison.{Comparison}
use Rattle.policy.specs.declared.line.Ending.{Ending}
use Rattle.policy.specs.declared.line.Test.{Test}
use Rattle.operation.proofs.PartsLaws.{Compares, Written, with_constant, with_reading, written, test_skip, test_first, test_low, test_again}
use Rattle.layout.proofs.LayoutLaws.{condition_length, part_length, condition_size_limit, tail_small}
use Rattle.policy.proofs.ValidLaws.{ValidParts, valid_out, test_in_range}
use Rattle.line_value.proofs.LineLaws.{heads_fit}
use Rattle.line_value.specs.Value.{fits, line_of}
use Rattle.operation.specs.Parts.{test_word, comparison_words, ending_word, constant_comparison, reading_comparison}
use Rattle.word.specs.Word.{word_limit}
use Rattle.operation.specs.Fields.{operation_of, first_of, second_of}
use Rattle.operation.specs.declared.operation.Operation.{Operation}
use Rattle.operation.specs.declared.said.LinePart.{LinePart}
use Rattle.operation.specs.Said.{says_by, says}
use Rattle.operation.proofs.SaidLaws.{said_head, said_constant, said_reading, said_ending, said_nothing, said, said_by, test_said, ending_said}
use Rattle.layout.specs.Layout.{condition_words, part_words, line_words}
use Rattle.decode.proofs.PartLaws.{last_word}
use Rattle.decode.specs.Stands.{in_part}
use Rattle.decode.specs.Steps.Scan.{is_head, is_ending_of, is_ending, head_sound, count_heads, head_numbers, constant_sound, reading_sound, operand_length, length_by, comparison_length, comparisons_fill, scan_line}
use Rattle.operation.specs.Whole.{ends}
use Rattle.policy.specs.declared.line.Part.{Part}

-- ---- one word, from facts and to facts

pub record HeadFacts (part : Part) (w left : ℕ) : Type 0 where
  pub head : is_head part (says w 0) ≡ true
  pub low : w % 2 ^ 22 ≡ left

pub head_out : (part : Part) (w left : ℕ) → head_sound part w left ≡ true → HeadFacts part w left
unfolding head_sound
head_out part w left q = grind (arith, nat_tests)

no_head_is : (part : Part) (w left : ℕ) (c : Comparison) → says w 0 ≡ LinePart.Comparison c → head_sound part w left ≡ false
unfolding head_sound is_head
no_head_is part w left c o = rw o (grind arith)

pub size_constant : (w k : ℕ) → Compares Operation.AgainstConstant w k → second_of w ≡ 0 → 0 < k → comparison_length w (k + 1) ≡ 2
unfolding comparison_length says_by length_by operand_length constant_sound constant_comparison
size_constant w k h z p = rw (said_by w 0 Operation.AgainstConstant h.operation) (grind (arith, nat_tests))

pub size_reading : (w k : ℕ) → Compares Operation.AgainstReading w k → second_of w < 16 → comparison_length w k ≡ 1
unfolding comparison_length says_by length_by operand_length reading_sound reading_comparison
size_reading w k h z = rw (said_by w 0 Operation.AgainstReading h.operation) (grind (arith, nat_tests))

-- what a word is, by the size of its comparison
pub data Sized (w left : ℕ) : Type 0 where
  sized_constant : Compares Operation.AgainstConstant w (left - 1) → second_of w ≡ 0 → 1 < left → comparison_length w left ≡ 2 → Sized w left
  sized_reading : Compares Operation.AgainstReading w left → second_of w < 16 → comparison_length w left ≡ 1 → Sized w left
  sized_none : comparison_length w left ≡ 0 → Sized w left

constant_sized : (w left : ℕ) → w < word_limit → operation_of w ≡ Operation.AgainstConstant → comparison_length w left ≡ cond (constant_sound w left) 2 0 → Sized w left
unfolding constant_sound
constant_sized w left h o e = grind (arith, nat_tests, sized_constant, sized_none)

reading_sized : (w left : ℕ) → w < word_limit → operation_of w ≡ Operation.AgainstReading → comparison_length w left ≡ cond (reading_sound w left) 1 0 → Sized w left
unfolding reading_sound
reading_sized w left h o e = grind (arith, nat_tests, sized_reading, sized_none)

pub sized : (w left : ℕ) → w < word_limit → Sized w left
unfolding comparison_length length_by operand_length constant_comparison reading_comparison
sized w left limit = grind (arith, said, said_constant, constant_sized, said_reading, reading_sized, said_head, said_ending, said_nothing)

-- one comparison more, of so many words
pub fill_step : (n room k r w : ℕ) (ws : List ℕ) → comparison_length w n ≡ k → 0 < k → n ≡ k + r → comparisons_fill (suc room) n (w ∷ ws) ≡ comparisons_fill room r (drop k (w ∷ ws))
unfolding comparisons_fill
fill_step n room k r w ws e p q = grind arith

pub fill_none : (n room w : ℕ) (ws : List ℕ) → 0 < n → comparison_length w n ≡ 0 → comparisons_fill (suc room) n (w ∷ ws) ≡ false
unfolding comparisons_fill
fill_none n room w ws s e = rw e (grind (arith, nat_tests))

pub fill_end : (room : ℕ) (ws : List ℕ) → comparisons_fill room 0 ws ≡ true
unfolding comparisons_fill
fill_end room ws = grind arith

-- ---- the words of a valid line pass

fill_written : (c : Comparison) (k room : ℕ) (ws : List ℕ) → Written c k → 0 < k
    → comparisons_fill (suc room) (length (comparison_words c k) + k - 1) (comparison_words c k ++ ws) ≡ comparisons_fill room (k - 1) ws
fill_written c k room ws (with_constant w v q o s b h z) some =
    let n : 2 + k - 1 ≡ k + 1 = omega arith in
    rw (q, n, fill_step (k + 1) room 2 (k - 1) w (v ∷ ws) (size_constant w k h z.0 some) (omega arith) (omega arith))
fill_written c k room ws (with_reading w q o s b h z) some =
    let n : 1 + k - 1 ≡ k = omega arith in
    rw (q, n, fill_step k room 1 (k - 1) w ws (size_reading w k h z) (omega arith) (omega arith))

-- no head stands where a comparison begins
headless_written : (part : Part) (c : Comparison) (k left : ℕ) (xs ys : List ℕ) → Written c k → head_sound part (get_or ((comparison_words c k ++ xs) ++ ys) 0 0) left ≡ false
unfolding says_by
headless_written part c k left xs ys (with_constant w v q o s b h z) = rw (q, no_head_is part w left (constant_comparison w 0) (said_by w 0 Operation.AgainstConstant o))
headless_written part c k left xs ys (with_reading w q o s b h z) = rw (q, no_head_is part w left (reading_comparison w) (said_by w 0 Operation.AgainstReading o))

head_written : (part : Part) (t : Test) (k : ℕ) → test_in_range t ≡ true → fits part t ≡ true → k < 32 → (head_sound part (test_word t k) k ≡ true) × (first_of (test_word t k) ≡ test_number t)
unfolding head_sound is_head
head_written part t k r f h = grind (arith, test_said, test_low, test_first)

module _ (part : Part) (e : Ending) (rest : List ℕ) where
  condition_fills : (cs : List Comparison) (room : ℕ) → length cs ≤ room → length cs ≤ 4 → list_all comparison_in_range cs ≡ true → comparisons_fill room (length (condition_words cs e) - 1) (condition_words cs e ++ rest) ≡ true
  unfolding condition_words
  condition_fills [] room f g r = fill_end room (ending_word e ∷ rest)
  condition_fills (c ∷ cs) zero f g r = absurd (omega arith)
  condition_fills (c ∷ cs) (suc room) f g r =
      let t = tail_small cs e (omega arith) in
      let p = and_parts (comparison_in_range c) (list_all comparison_in_range cs) r in
      let k : ℕ = length (condition_words cs e) in
      rw (length-append (comparison_words c k) (condition_words cs e), append_assoc (comparison_words c k) (condition_words cs e) rest)
      (fill_written c k room (condition_words cs e ++ rest) (written c k p.0 (omega arith)) t.0 ∙ condition_fills cs room (omega arith) (omega arith) p.1)

  -- no head stands where the comparisons begin
  condition_headless : (cs : List Comparison) (m : ℕ) → length cs ≤ 4 → list_all comparison_in_range cs ≡ true → m < length (condition_words cs e) → count_heads part m (condition_words cs e ++ rest) ≡ 0
  unfolding condition_words count_heads
  condition_headless cs zero g r l = refl
  condition_headless [] (suc m) g r l = absurd (omega arith)
  condition_headless (c ∷ cs) (suc m) g r l =
      let t = tail_small cs e (omega arith) in
      rw (headless_written part c (length (condition_words cs e)) (suc m) (condition_words cs e) rest (written c _ (and_parts (comparison_in_range c) (list_all comparison_in_range cs) r).0 (omega arith)))

  heads_counted : (cs : List Comparison) → length cs ≤ 4 → list_all comparison_in_range cs ≡ true → (ts : List Test) (m : ℕ) → length ts ≤ 8
      → list_all test_in_range ts ≡ true → list_all (fits part) ts ≡ true → length (part_words ts cs e) ≡ suc m
      → (count_heads part m (part_words ts cs e ++ rest) ≡ length ts) × (head_numbers (length ts) (part_words ts cs e ++ rest) ≡ map test_number ts)
  unfolding part_words count_heads
  heads_counted cs f r [] m h k o l = (condition_headless cs m f r (omega arith), refl)
  heads_counted cs f r (x ∷ xs) zero h k o l = absurd (omega (arith, part_length xs cs e, condition_size_limit cs))
  heads_counted cs f r (x ∷ xs) (suc m) h k o l =
      let p = and_parts (test_in_range x) (list_all test_in_range xs) k in
      let q = and_parts (fits part x) (list_all (fits part) xs) o in
      let j : suc m ≡ length (part_words xs cs e) = omega arith in
      let head = head_written part x (length (part_words xs cs e)) p.0 q.0 (omega (arith, part_length xs cs e, condition_size_limit cs)) in
      let later = heads_counted cs f r xs m (omega arith) p.1 q.1 (sym j) in
      (rw (j, head.0) (ap suc later.0), ap₂ (λ (y : ℕ) (ys : List ℕ). y ∷ ys) head.1 later.1)

  heads_dropped : (ts : List Test) (cs : List Comparison) → drop (length ts) (part_words ts cs e ++ rest) ≡ condition_words cs e ++ rest
  unfolding part_words
  heads_dropped [] cs = refl
  heads_dropped (t ∷ ts) cs = heads_dropped ts cs

-- ---- the kinds of lines

-- a line of a part ends as such lines do, and the line of such an ending is one
pub kind_out : (form : ℕ) (part : Part) (l : PolicyLine) → in_part form part l ≡ true → (line_part l ≡ part) × (ends part (ending_of l) ≡ true) × (ending_allowed form (ending_of l) ≡ true)
unfolding in_part ending_of ends ending_allowed
kind_out form part l k = grind arith

pub kind_ends : (form : ℕ) (part : Part) (l : PolicyLine) → in_part form part l ≡ true → ends part (ending_of l) ≡ true
kind_ends form part l k = (kind_out form part l k).1

pub kind_in : (form : ℕ) (part : Part) (e : Ending) (ts : List Test) (cs : List Comparison) → ends part e ≡ true → ending_allowed form e ≡ true → (ending_part e ≡ part) × (in_part form part (line_of ts cs e) ≡ true)
unfolding in_part ending_of ends ending_allowed line_of
kind_in form part e ts cs k a = grind arith

pub ending_there : (form : ℕ) (part : Part) (e : Ending) → ends part e ≡ true → ending_allowed form e ≡ true → ending_in_range e ≡ true → is_ending form part (ending_word e) ≡ true
unfolding is_ending is_ending_of
ending_there form part e k a h = rw (ending_said e 0 h, k, a) (grind (arith, nat_tests))

-- ---- a valid line at the start is found

parts_found : (form : ℕ) (part : Part) (ts : List Test) (cs : List Comparison) (e : Ending) (rest : List ℕ) → ValidParts ts cs e → list_all (fits part) ts ≡ true → is_ending form part (ending_word e) ≡ true
    → scan_line form part (part_words ts cs e ++ rest) ≡ length (part_words ts cs e)
unfolding part_words scan_line
parts_found form part [] cs e rest v k n = absurd (omega (arith, v.some))
parts_found form part (t ∷ ts) cs e rest v k n =
    let m : ℕ = length (part_words ts cs e) in
    let ws : List ℕ = part_words (t ∷ ts) cs e ++ rest in
    let size = tail_small cs e v.few_comparisons in
    let small : m < 32 = omega (arith, v.few_tests, part_length ts cs e, condition_length cs e) in
    let within : m < length ws = omega (arith, length-append (part_words ts cs e) rest) in
    let first : test_number t < 64 = ltb-true (test_number t) 64 (and_parts (test_in_range t) (list_all test_in_range ts) v.tests).0 in
    let left : m - suc (length ts) ≡ length (condition_words cs e) - 1 = omega (arith, part_length ts cs e, condition_length cs e) in
    let heads = heads_counted part e rest cs v.few_comparisons v.comparisons (t ∷ ts) m v.few_tests v.tests k refl in
    rw (test_skip t m first small, heads.0, heads.1, last_word (t ∷ ts) cs e v rest m refl, n, v.distinct, heads_dropped part e rest ts cs, left, condition_fills part e rest cs 4 v.few_comparisons v.few_comparisons v.comparisons)
    (grind (arith, nat_tests))

pub line_found : (form : ℕ) (part : Part) (l : PolicyLine) (rest : List ℕ) → in_part form part l ≡ true → valid l ≡ true → scan_line form part (line_words l ++ rest) ≡ length (line_words l)
unfolding line_words
line_found form part l rest k v = grind (arith, valid_out, kind_out, parts_found, heads_fit, ending_there)

-- ---- what words say that pass

-- the test that a head is written from
pub record HeadOf (part : Part) (w left : ℕ) : Type 0 where
  pub test : Test
  pub fit : fits part test ≡ true
  pub word : test_word test left ≡ w
  pub number : test_number test ≡ first_of w

pub head_of : (part : Part) (w left : ℕ) → w < word_limit → HeadFacts part w left → HeadOf part w left
unfolding is_head
head_of part w left l h = grind (arith, said, said_head, test_again, said_constant, said_reading, said_ending, said_nothing)

-- what a word is that ends a line
pub record Ends (form : ℕ) (part : Part) (w : ℕ) : Type 0 where
  pub ending : Ending
  pub kind : ends part ending ≡ true
  pub allowed : ending_allowed form ending ≡ true
  pub sound : ending_in_range ending ≡ true
  pub word : w ≡ ending_word ending

ending_out : (form : ℕ) (part : Part) (w : ℕ) (e : Ending) → ends part e && ending_allowed form e && eqb w (ending_word e) ≡ true → (ends part e ≡ true) × (ending_allowed form e ≡ true) × (w ≡ ending_word e)
ending_out form part w e h = grind (arith, nat_tests)

pub ending_is : (form : ℕ) (part : Part) (w : ℕ) → is_ending form part w ≡ true → Ends form part w
unfolding is_ending is_ending_of
ending_is form part w h = grind (arith, said, said_ending, ending_out, said_head, said_constant, said_reading, said_nothing)
