-- The words of lines that an accepted text may have are whole lines.
use Rattle.std.proofs.Common.{ℕ, suc, ◌+◌, ◌-◌, ◌<◌, ◌≤◌, true, List, [], ◌∷◌, ◌++◌, append_assoc, append-nil, ◌≡◌, refl, arith, ltb-true, get_or, length, length-append}
use Rattle.std.proofs.lemmas.Bool.{and_from, and_parts}
use Rattle.policy.proofs.ValidLaws.{valid_out, test_in_range}
use Rattle.policy.specs.Limits.{valid, trigger_form, ending_allowed, comparison_in_range, ending_in_range}
use Rattle.policy.specs.Line.{PolicyLine, heads_of, comparisons_of, ending_of, line_part}
use Rattle.std.specs.List.{list_all}
use Rattle.policy.specs.declared.comparison.Comparison.{Comparison}
use Rattle.policy.specs.declared.line.Ending.{Ending}
use Rattle.policy.specs.declared.line.Part.{Part}
use Rattle.policy.specs.declared.line.Test.{Test}
use Rattle.operation.proofs.PartsLaws.{Written, written, test_skip, ending_skip}
use Rattle.operation.proofs.SaidLaws.{test_said, ending_said, constant_said, reading_said}
use Rattle.operation.proofs.WholeLaws.{end_whole, test_whole, whole_begins}
use Rattle.operation.specs.Parts.{comparison_words, ending_word}
use Rattle.operation.specs.Said.{constants_of}
use Rattle.operation.specs.Whole.{ends, ends_line, whole_from, whole_lines}
use Rattle.operation.specs.declared.said.LinePart.{LinePart}
use Rattle.layout.specs.Layout.{condition_words, part_words, line_words, lines_words}
use Rattle.layout.proofs.LayoutLaws.{part_length, condition_size_limit, tail_small}
use Rattle.decode.proofs.ScanLaws.{kind_ends}
use Rattle.decode.proofs.FoundLaws.{line_some}
use Rattle.decode.specs.Stands.{in_part, AreLines}

module _ (part : Part) (e : Ending) (kind : ends part e ≡ true) (sound : ending_in_range e ≡ true) (rest : List ℕ) (behind : whole_lines part rest ≡ true) where
  comparison_whole : (c : Comparison) (tail : List ℕ) → Written c (length tail) → 0 < length tail → whole_from part 0 (length tail) (tail ++ rest) ≡ true
      → whole_from part 0 (length (comparison_words c (length tail)) + length tail) (comparison_words c (length tail) ++ (tail ++ rest)) ≡ true
  unfolding ends_line whole_from
  comparison_whole c tail h some k = grind (arith, constant_said, test_whole, reading_said)

  condition_whole : (cs : List Comparison) → list_all comparison_in_range cs ≡ true → length cs ≤ 4 → whole_from part 0 (length (condition_words cs e)) (condition_words cs e ++ rest) ≡ true
  unfolding condition_words ends_line constants_of
  condition_whole [] r l = end_whole part (ending_word e) rest (LinePart.Ending e) (ending_said e (get_or rest 0 0) sound) kind refl (ending_skip e sound) behind
  condition_whole (c ∷ cs) r l =
      let tail : List ℕ = condition_words cs e in
      let p = and_parts (comparison_in_range c) (list_all comparison_in_range cs) r in
      let size = tail_small cs e (omega arith) in
      rw (length-append (comparison_words c (length tail)) tail, append_assoc (comparison_words c (length tail)) tail rest)
      (comparison_whole c tail (written c (length tail) p.0 (omega arith)) size.0 (condition_whole cs p.1 (omega arith)))

  part_whole : (cs : List Comparison) → list_all comparison_in_range cs ≡ true → length cs ≤ 4 → (ts : List Test) → list_all test_in_range ts ≡ true → length ts ≤ 8
      → whole_from part 0 (length (part_words ts cs e)) (part_words ts cs e ++ rest) ≡ true
  unfolding part_words ends_line constants_of
  part_whole cs r few [] t l = condition_whole cs r few
  part_whole cs r few (x ∷ xs) t l = grind (arith, and_parts, test_in_range, ltb-true, part_length, condition_size_limit, test_skip, test_whole, test_said, part_whole cs r few xs)

pub lines_whole : (form : ℕ) (part : Part) (ls : List PolicyLine) → list_all (in_part form part) ls ≡ true → list_all valid ls ≡ true → whole_lines part (lines_words ls) ≡ true
unfolding lines_words line_words whole_from
lines_whole form part [] k v = refl
lines_whole form part (l ∷ ls) k v =
    let p = and_parts (in_part form part l) (list_all (in_part form part) ls) k in
    let q = and_parts (valid l) (list_all valid ls) v in
    let h = valid_out l q.0 in
    let one : suc (length (line_words l) - 1) ≡ length (line_words l) = omega (arith, line_some l) in
    whole_begins part (length (line_words l) - 1) (line_words l ++ lines_words ls)
    (rw one (part_whole part (ending_of l) (kind_ends form part l p.0) h.ending (lines_words ls) (lines_whole form part ls p.1 q.1) (comparisons_of l) h.comparisons h.few_comparisons (heads_of l) h.tests h.few_tests))

-- words that are lines of a part
pub are_whole : (form : ℕ) (part : Part) (room : ℕ) (ws : List ℕ) (ls : List PolicyLine) → AreLines form part room ws ls → whole_lines part ws ≡ true
are_whole form part room ws ls h = rw h.words (lines_whole form part ls h.kind h.sound)

own_part : (l : PolicyLine) → list_all (in_part trigger_form (line_part l)) (l ∷ []) ≡ true
unfolding in_part ending_of ending_allowed
own_part l = grind arith

pub own_line_whole : (l : PolicyLine) → valid l ≡ true → whole_lines (line_part l) (line_words l) ≡ true
unfolding lines_words
own_line_whole l v = rw append-nil at (lines_whole trigger_form (line_part l) (l ∷ []) (own_part l) (and_from _ _ v refl))
