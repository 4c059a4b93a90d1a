-- Laws of a draft that is filled part by part: what it holds where each part is in range, and that it says where one isn't.
use Rattle.std.specs.Prelude.{Option as Maybe}
use Rattle.std.proofs.Common.{ℕ, Bool, true, false, ◌&&◌, ◌||◌, List, [], ◌∷◌, ◌++◌, append-nil, append_assoc, ◌≡◌, refl, sym, ap, ◌∙◌, arith, length, length-append, length-take, take, take_all, Some, None, fold, ltb}
use Rattle.std.proofs.lemmas.Bool.{and_parts}
use Rattle.std.proofs.Math.Bool.{and-true, or-false, and_assoc}
use Rattle.std.proofs.Math.Seq.{take-append-le}
use Rattle.policy.specs.Limits.{in_range, comparison_in_range, ending_in_range, head_limit, comparison_limit}
use Rattle.policy.specs.Line.{PolicyLine, heads_of, comparisons_of, ending_of}
use Rattle.std.specs.List.{list_all}
use Rattle.policy.specs.declared.comparison.Comparison.{Comparison}
use Rattle.policy.specs.declared.line.Ending.{Ending}
use Rattle.policy.specs.declared.line.Test.{Test}
use Rattle.token.specs.Steps.PartIn.{kept, test_in_range}
use Rattle.syntax.specs.Steps.Draft.{new_draft, with_item, more_crowded, push_head, push_comparison, end_as, heads_into, comparisons_into, ending_into, line_into}
use Rattle.syntax.specs.declared.draft.Draft.{Draft}

-- ---- a list with one item more, up to a limit

module _ {A : Type 0} (limit : ℕ) (xs : List A) (x : A) where
  held_more : with_item limit (take limit xs) x ≡ take limit (xs ++ x ∷ [])
  held_more = grind (arith, length-take limit xs, length-append xs (x ∷ []), take_all limit xs, take_all limit (xs ++ x ∷ []), take-append-le limit xs (x ∷ []))

  crowded_more : (k : Bool) → more_crowded limit (k || ltb limit (length xs)) (take limit xs) ≡ k || ltb limit (length (xs ++ x ∷ []))
  crowded_more k = grind (arith, length-append, length-take)

-- ---- parts one behind another

module _ {A : Type 0} (ok : A → Bool) (push : Draft → Maybe A → Draft) where
  abbrev into : Draft → List A → Draft
  into d xs = fold (λ (d : Draft) (x : A). push d (kept ok x)) d xs

  -- whether each is in range
  module _ (out : (d : Draft) → (push d None).in_range ≡ false) (more : (d : Draft) (x : A) → (push d (Some x)).in_range ≡ d.in_range) where
    one_range : (d : Draft) (x : A) → (push d (kept ok x)).in_range ≡ d.in_range && ok x
    one_range d x = grind arith

    all_range : (d : Draft) (xs : List A) → (into d xs).in_range ≡ d.in_range && list_all ok xs
    all_range d [] = sym (and-true d.in_range)
    all_range d (x ∷ xs) = all_range (push d (kept ok x)) xs ∙ rw (one_range d x) (simp and_assoc)

  -- what is held where they are
  module _ (held : List A → Draft) (more : (xs : List A) (x : A) → push (held xs) (Some x) ≡ held (xs ++ x ∷ [])) where
    all_held : (xs ys : List A) → list_all ok ys ≡ true → into (held xs) ys ≡ held (xs ++ ys)
    all_held xs [] h = ap held (sym (append-nil xs))
    all_held xs (y ∷ ys) h = grind (arith, more xs y, all_held (xs ++ y ∷ []) ys, append_assoc xs (y ∷ []) ys)

-- ---- a whole line

parts_order : (a b c : Bool) → ((true && a) && b) && c ≡ (a && c) && b
parts_order a b c = grind arith

pub line_range : (l : PolicyLine) → (line_into new_draft l).in_range ≡ in_range l
unfolding line_into heads_into comparisons_into ending_into push_head push_comparison end_as in_range test_in_range
line_range l =
    all_range comparison_in_range push_comparison (λ d. refl) (λ d c. refl) _ (comparisons_of l)
    ∙ ap (λ (x : Bool). x && list_all comparison_in_range (comparisons_of l))
    (one_range ending_in_range end_as (λ d. refl) (λ d e. refl) _ (ending_of l) ∙ ap (λ (x : Bool). x && ending_in_range (ending_of l)) (all_range test_in_range push_head (λ d. refl) (λ d t. refl) new_draft (heads_of l)))
    ∙ parts_order (list_all test_in_range (heads_of l)) (ending_in_range (ending_of l)) (list_all comparison_in_range (comparisons_of l))

-- the draft of a line in range with these parts
abbrev pub draft_of : List Test → List Comparison → Ending → Draft
draft_of ts cs e =
    record {
      heads = take head_limit ts;
      comparisons = take comparison_limit cs;
      ending = e;
      in_range = true;
      crowded = ltb head_limit (length ts) || ltb comparison_limit (length cs);
    }

abbrev headed : List Test → Draft
headed ts = record { heads = take head_limit ts; comparisons = []; ending = Ending.Never; in_range = true; crowded = ltb head_limit (length ts) }

pub line_held : (l : PolicyLine) → in_range l ≡ true → line_into new_draft l ≡ draft_of (heads_of l) (comparisons_of l) (ending_of l)
unfolding line_into heads_into comparisons_into ending_into push_head push_comparison end_as in_range test_in_range
line_held l h =
    let p = and_parts (list_all test_in_range (heads_of l) && list_all comparison_in_range (comparisons_of l)) (ending_in_range (ending_of l)) h in
    let q = and_parts (list_all test_in_range (heads_of l)) (list_all comparison_in_range (comparisons_of l)) p.0 in
    ap (λ (d : Draft). comparisons_into (ending_into d (ending_of l)) (comparisons_of l)) (all_held test_in_range push_head headed head_more [] (heads_of l) q.0)
    ∙ rw p.1 (start ∙ all_held comparison_in_range push_comparison (λ cs. draft_of (heads_of l) cs (ending_of l)) comparison_more [] (comparisons_of l) q.1)
  where
    head_more : (ts : List Test) (t : Test) → push_head (headed ts) (Some t) ≡ headed (ts ++ t ∷ [])
    head_more ts t = rw (held_more head_limit ts t, crowded_more head_limit ts t false) refl

    comparison_more : (cs : List Comparison) (c : Comparison) → push_comparison (draft_of (heads_of l) cs (ending_of l)) (Some c) ≡ draft_of (heads_of l) (cs ++ c ∷ []) (ending_of l)
    comparison_more cs c = rw (held_more comparison_limit cs c, crowded_more comparison_limit cs c (ltb head_limit (length (heads_of l)))) refl

    start : comparisons_into (record { heads = take head_limit (heads_of l); comparisons = []; ending = ending_of l; in_range = true; crowded = ltb head_limit (length (heads_of l)) }) (comparisons_of l)
        ≡ comparisons_into (draft_of (heads_of l) [] (ending_of l)) (comparisons_of l)
    start = ap (λ (b : Bool). comparisons_into (record { heads = take head_limit (heads_of l); comparisons = []; ending = ending_of l; in_range = true; crowded = b }) (comparisons_of l)) (sym (or-false (ltb head_limit (length (heads_of l)))))
