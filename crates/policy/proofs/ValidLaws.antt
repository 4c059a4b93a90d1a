-- What it says that a line is one that an accepted text may have, as facts of its parts.
use Rattle.std.proofs.Common.{arith, ltb, ◌≤◌, ◌<◌, Bool, true, false, List, map, ◌≡◌, length}
use Rattle.policy.specs.Limits.{valid, in_range, crowded, repeated, repeats, test_number, comparison_in_range, ending_in_range}
use Rattle.policy.specs.Line.{PolicyLine, heads_of, comparisons_of, ending_of}
use Rattle.std.specs.List.{list_all}
use Rattle.policy.specs.declared.comparison.Comparison.{Comparison}
use Rattle.policy.specs.declared.line.Ending.{Ending}
use Rattle.policy.specs.declared.line.Test.{Test}

abbrev pub test_in_range : Test → Bool
test_in_range t = ltb (test_number t) 64

pub record ValidParts (ts : List Test) (cs : List Comparison) (e : Ending) : Type 0 where
  pub some : 0 < length ts
  pub tests : list_all test_in_range ts ≡ true
  pub comparisons : list_all comparison_in_range cs ≡ true
  pub ending : ending_in_range e ≡ true
  pub few_tests : length ts ≤ 8
  pub few_comparisons : length cs ≤ 4
  pub distinct : repeats (map test_number ts) ≡ false

-- the tests of a line, one by one
pub record ValidTests (l : PolicyLine) : Type 0 where
  pub some_heads : 0 < length (heads_of l)
  pub numbers_in_range : in_range l ≡ true
  pub uncrowded : crowded l ≡ false
  pub distinct : repeated l ≡ false

pub valid_tests : (l : PolicyLine) → valid l ≡ true → ValidTests l
unfolding valid
valid_tests l h = grind arith

pub valid_out : (l : PolicyLine) → valid l ≡ true → ValidParts (heads_of l) (comparisons_of l) (ending_of l)
unfolding in_range crowded repeated
valid_out l v = grind (arith, valid_tests l v)

pub valid_in : (l : PolicyLine) → ValidParts (heads_of l) (comparisons_of l) (ending_of l) → valid l ≡ true
unfolding valid in_range crowded repeated
valid_in l h = grind arith
