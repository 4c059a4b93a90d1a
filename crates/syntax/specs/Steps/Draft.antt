-- A line as it is read, part by part, before it is judged.
use Rattle.std.specs.Prelude.{ℕ, Bool, true, false, if◌then◌else◌, List, [], ◌∷◌, ◌++◌, fold, length, nat_lt, Option, Some, None}
use Rattle.policy.specs.Limits.{comparison_in_range, ending_in_range, head_limit, comparison_limit}
use Rattle.policy.specs.Line.{PolicyLine, heads_of, comparisons_of, ending_of}
use Rattle.policy.specs.declared.comparison.Comparison.{Comparison}
use Rattle.policy.specs.declared.line.Ending.{Ending}
use Rattle.policy.specs.declared.line.Test.{Test}
use Rattle.token.specs.Steps.PartIn.{kept, test_in_range}
use Rattle.syntax.specs.declared.draft.Draft.{Draft}

abbrev pub new_draft : Draft
new_draft = record { heads = []; comparisons = []; ending = Ending.Never; in_range = true; crowded = false }

-- ---- one part more, none where a number of it is out of range

abbrev pub out_of_range : Draft → Draft
out_of_range d = record { heads = d.heads; comparisons = d.comparisons; ending = d.ending; in_range = false; crowded = d.crowded }

module _ {A : Type 0} (limit : ℕ) where
  -- a list with one item more, where there is room for it
  abbrev pub with_item : List A → A → List A
  with_item xs x = if nat_lt (length xs) limit then xs ++ x ∷ [] else xs

  -- and whether there was none, now or before
  abbrev pub more_crowded : Bool → List A → Bool
  more_crowded crowded xs = if nat_lt (length xs) limit then crowded else true

unfoldable pub push_head : Draft → Option Test → Draft
push_head d None = out_of_range d
push_head d (Some t) =
    record {
      heads = with_item head_limit d.heads t;
      comparisons = d.comparisons;
      ending = d.ending;
      in_range = d.in_range;
      crowded = more_crowded head_limit d.crowded d.heads;
    }

unfoldable pub push_comparison : Draft → Option Comparison → Draft
push_comparison d None = out_of_range d
push_comparison d (Some c) =
    record {
      heads = d.heads;
      comparisons = with_item comparison_limit d.comparisons c;
      ending = d.ending;
      in_range = d.in_range;
      crowded = more_crowded comparison_limit d.crowded d.comparisons;
    }

unfoldable pub end_as : Draft → Option Ending → Draft
end_as d None = out_of_range d
end_as d (Some e) = record { heads = d.heads; comparisons = d.comparisons; ending = e; in_range = d.in_range; crowded = d.crowded }

-- ---- the parts of a line, one behind another

unfoldable pub heads_into : Draft → List Test → Draft
heads_into d ts = fold (λ (d : Draft) (t : Test). push_head d (kept test_in_range t)) d ts

unfoldable pub comparisons_into : Draft → List Comparison → Draft
comparisons_into d cs = fold (λ (d : Draft) (c : Comparison). push_comparison d (kept comparison_in_range c)) d cs

unfoldable pub ending_into : Draft → Ending → Draft
ending_into d e = end_as d (kept ending_in_range e)

unfoldable pub line_into : Draft → PolicyLine → Draft
line_into d l = comparisons_into (ending_into (heads_into d (heads_of l)) (ending_of l)) (comparisons_of l)
