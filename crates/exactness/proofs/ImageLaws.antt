-- Laws of whole images: that their words are words, and their parts.
use Rattle.std.proofs.Common.{ℕ, suc, ◌+◌, ◌<◌, ◌≤◌, true, List, [], ◌∷◌, ◌++◌, append_assoc, ◌≡◌, sym, ◌∙◌, arith, ltb-true, length, take, length-append, length-take, length-drop, take-append-drop, drop-cons, take_at, drop_at, take-take, get_or-take, get_or}
use Rattle.std.proofs.lemmas.Bool.{and_parts}
use Rattle.policy.specs.Limits.{valid, comparison_in_range, ending_in_range}
use Rattle.operation.specs.Parts.{comparison_words, ending_word}
use Rattle.word.specs.Word.{word_limit, between, Below}
use Rattle.layout.specs.Layout.{condition_words, part_words, line_words, lines_words}
use Rattle.layout.specs.Steps.Size.{comparisons_size, condition_size}
use Rattle.policy.specs.Line.{PolicyLine}
use Rattle.std.specs.List.{list_all}
use Rattle.policy.specs.declared.comparison.Comparison.{Comparison}
use Rattle.policy.specs.declared.line.Ending.{Ending}
use Rattle.policy.specs.declared.line.Test.{Test}
use Rattle.operation.proofs.PartsLaws.{Written, written, test_below, ending_below}
use Rattle.layout.proofs.LayoutLaws.{condition_length, part_length, condition_size_limit}
use Rattle.policy.proofs.ValidLaws.{valid_out, test_in_range}
use Rattle.word.proofs.WordLaws.{below_append, below_cons, below_none}

-- ---- words below 2 ^ 32

comparison_below : (c : Comparison) (k : ℕ) → Written c k → Below word_limit (comparison_words c k)
comparison_below c k h = grind arith

condition_below : (cs : List Comparison) (e : Ending) → list_all comparison_in_range cs ≡ true → ending_in_range e ≡ true → condition_size cs < 32 → Below word_limit (condition_words cs e)
unfolding condition_words condition_size comparisons_size
condition_below [] e r h l = below_cons word_limit (ending_word e) [] (ending_below e h) below_none
condition_below (c ∷ cs) e r h l =
    let p = and_parts (comparison_in_range c) (list_all comparison_in_range cs) r in
    below_append word_limit (comparison_words c (length (condition_words cs e))) (condition_words cs e)
    (comparison_below c (length (condition_words cs e)) (written c (length (condition_words cs e)) p.0 (omega (arith, condition_length cs e)))) (condition_below cs e p.1 h (omega arith))

parts_below : (ts : List Test) (cs : List Comparison) (e : Ending) → list_all test_in_range ts ≡ true → list_all comparison_in_range cs ≡ true → ending_in_range e ≡ true → length ts + condition_size cs < 32 → Below word_limit (part_words ts cs e)
unfolding part_words
parts_below [] cs e t r h l = condition_below cs e r h (omega arith)
parts_below (x ∷ xs) cs e t r h l = grind (arith, and_parts, test_in_range, below_cons, test_below, ltb-true, part_length, parts_below xs cs e)

line_below : (l : PolicyLine) → valid l ≡ true → Below word_limit (line_words l)
unfolding line_words
line_below l v = grind (arith, valid_out, parts_below, condition_size_limit)

pub lines_below : (ls : List PolicyLine) → list_all valid ls ≡ true → Below word_limit (lines_words ls)
unfolding lines_words
lines_below [] v = below_none
lines_below (l ∷ ls) v = grind (arith, and_parts, below_append, line_below, lines_below ls)

-- ---- the parts of an image

module _ (h : ℕ) (rules constraints checks : List ℕ) (P N : ℕ) (p : length rules ≡ P) (n : length constraints ≡ N) where
  abbrev image : List ℕ
  image = (h ∷ rules ++ constraints) ++ checks

  pub rules_between : between 1 (1 + P) image ≡ rules
  unfolding between
  rules_between = let s : 1 + P ≡ suc P = omega arith in rw (s, append_assoc rules constraints checks) (take_at rules (constraints ++ checks) P p)

  pub constraints_between : between (1 + P) (1 + P + N) image ≡ constraints
  unfolding between
  constraints_between = grind (arith, take_at, length-append, drop_at)

-- ---- an image from its parts

module _ (ws : List ℕ) (P N : ℕ) (size : 1 + P + N ≤ length ws) where
  pub rules_size : length (between 1 (1 + P) ws) ≡ P
  unfolding between
  rules_size = omega (arith, length-drop 1 (take (1 + P) ws), length-take (1 + P) ws)

  pub constraints_size : length (between (1 + P) (1 + P + N) ws) ≡ N
  unfolding between
  constraints_size = omega (arith, length-drop (1 + P) (take (1 + P + N) ws), length-take (1 + P + N) ws)

  head_of : take (1 + P) ws ≡ get_or ws 0 0 ∷ between 1 (1 + P) ws
  unfolding between
  head_of = drop-cons (take (1 + P) ws) 0 0 (omega (arith, length-take (1 + P) ws)) ∙ rw (get_or-take (1 + P) ws 0 0 (omega arith))

  -- the words before the check words
  pub content_of : take (1 + P + N) ws ≡ get_or ws 0 0 ∷ between 1 (1 + P) ws ++ between (1 + P) (1 + P + N) ws
  unfolding between
  content_of = sym (take-append-drop (1 + P) (take (1 + P + N) ws)) ∙ rw (take-take (1 + P) (1 + P + N) ws (omega arith), head_of)
