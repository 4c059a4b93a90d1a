-- How many words of a taken image its parts fetch at the most: each part ends with the ending of a line, which has no constant.
use Rattle.std.proofs.Common.{ℕ, ◌≤◌, true, List, [], ◌∷◌, ◌++◌, map, ◌≡◌, refl, ap, ◌∙◌, arith, length, length-append, Ok}
use Rattle.std.proofs.lemmas.Bool.{and_parts}
use Rattle.policy.specs.Set.{ActionSet}
use Rattle.policy.proofs.ValidLaws.{valid_out}
use Rattle.policy.specs.declared.epoch.Readings.{Readings}
use Rattle.policy.specs.Limits.{valid, ending_in_range}
use Rattle.policy.specs.Line.{PolicyLine, rule, constraint, heads_of, comparisons_of, ending_of}
use Rattle.std.specs.List.{list_all}
use Rattle.policy.specs.declared.comparison.Comparison.{Comparison}
use Rattle.policy.specs.declared.line.Ending.{Ending}
use Rattle.policy.specs.declared.line.Test.{Test}
use Rattle.policy.specs.declared.set.Events.{Events}
use Rattle.word.specs.Word.{Bytes}
use Rattle.operation.proofs.SaidLaws.{ending_said}
use Rattle.operation.specs.Said.{says, constants_of}
use Rattle.operation.specs.Parts.{test_word, comparison_words, ending_word}
use Rattle.layout.proofs.LayoutLaws.{condition_length, part_length, condition_size_limit}
use Rattle.layout.specs.Layout.{condition_words, part_words, line_words, lines_words, rule_part_words, constraint_part_words}
use Rattle.image.specs.Held.{policy_in}
use Rattle.image.specs.Load.{Contents, load}
use Rattle.exactness.proofs.Exact.{held_acceptable, taken_rules, taken_constraints}
use Rattle.run.proofs.FetchLaws.{last_constants, last_behind, rule_fetches_is, trial_fetches_is}
use Rattle.run.specs.Run.{rule_fetches, trial_fetches}

-- ---- the last word of lines

last_append : (ws vs : List ℕ) → 1 ≤ length vs → last_constants (ws ++ vs) ≡ last_constants vs
last_append [] vs h = refl
last_append (w ∷ ws) vs h = last_behind w (ws ++ vs) (omega (arith, length-append ws vs)) ∙ last_append ws vs h

last_both : (ws vs : List ℕ) → last_constants ws ≡ 0 → last_constants vs ≡ 0 → last_constants (ws ++ vs) ≡ 0
last_both [] vs p q = q
last_both (w ∷ []) vs p q = grind arith
last_both (w ∷ x ∷ ws) vs p q = last_both (x ∷ ws) vs p q

ending_constants : (e : Ending) → ending_in_range e ≡ true → constants_of (says (ending_word e) 0) ≡ 0
unfolding constants_of
ending_constants e h = ap constants_of (ending_said e 0 h)

module _ (e : Ending) (h : ending_in_range e ≡ true) where
  condition_last : (cs : List Comparison) → last_constants (condition_words cs e) ≡ 0
  unfolding condition_words
  condition_last [] = ending_constants e h
  condition_last (c ∷ cs) =
      last_append (comparison_words c (length (condition_words cs e))) (condition_words cs e) (omega (arith, condition_length cs e, (condition_size_limit cs).0)) ∙ condition_last cs

  part_last : (ts : List Test) (cs : List Comparison) → last_constants (part_words ts cs e) ≡ 0
  unfolding part_words
  part_last [] cs = condition_last cs
  part_last (t ∷ ts) cs =
      last_behind (test_word t (length (part_words ts cs e))) (part_words ts cs e) (omega (arith, part_length ts cs e, (condition_size_limit cs).0)) ∙ part_last ts cs

lines_last : (ls : List PolicyLine) → list_all valid ls ≡ true → last_constants (lines_words ls) ≡ 0
unfolding lines_words line_words
lines_last [] v = refl
lines_last (l ∷ ls) v =
    let p = and_parts (valid l) (list_all valid ls) v in
    last_both (line_words l) (lines_words ls) (part_last (ending_of l) (valid_out l p.0).ending (heads_of l) (comparisons_of l)) (lines_last ls p.1)

-- ---- the parts of a taken image

module _ (bytes : List ℕ) (bounded : Bytes bytes) (contents : Contents) (taken : load bytes ≡ Ok contents) (rs : Readings) where
  -- its rules fetch at most as many words as they have
  pub taken_rules_fetch : (ev : Events) → rule_fetches ev rs contents.parts.rules ≤ length contents.parts.rules
  unfolding rule_part_words
  taken_rules_fetch ev =
      let ok = held_acceptable bytes bounded contents taken in
      let last : last_constants contents.parts.rules ≡ 0 = ap last_constants (taken_rules bytes bounded contents taken) ∙ lines_last (map rule (policy_in bytes).rules) ok.rules_valid in
      omega (arith, rule_fetches_is rs contents.parts.rules ev)

  -- and so does each trial by its constraints
  pub taken_trial_fetch : (s : ActionSet) → trial_fetches rs s contents.parts.constraints ≤ length contents.parts.constraints
  unfolding constraint_part_words
  taken_trial_fetch s =
      let ok = held_acceptable bytes bounded contents taken in
      let last : last_constants contents.parts.constraints ≡ 0 =
      ap last_constants (taken_constraints bytes bounded contents taken) ∙ lines_last (map constraint (policy_in bytes).constraints) ok.constraints_valid in
      omega (arith, trial_fetches_is rs contents.parts.constraints s)
