-- The items of a list, one after another, and a line from its parts.
use Rattle.std.proofs.Common.{arith, true, List, [], ◌∷◌, map, ◌≡◌, refl}
use Rattle.policy.specs.Line.{PolicyLine, rule, constraint, heads_of, comparisons_of, ending_of, ending_part, line_part}
use Rattle.std.specs.List.{list_all}
use Rattle.policy.specs.declared.comparison.Comparison.{Comparison}
use Rattle.policy.specs.declared.comparison.Literal.{Literal}
use Rattle.policy.specs.declared.line.Ending.{Ending}
use Rattle.policy.specs.declared.line.Part.{Part}
use Rattle.policy.specs.declared.line.Test.{Test}
use Rattle.policy.specs.declared.number.Action.{Action}
use Rattle.line_value.specs.Value.{fits, literals_among, actions_among, line_of}

-- ---- a line from its parts

-- literals that are heads are the literals among them, and heads that are literals are these again
literals_there : (ls : List Literal) → literals_among (map Test.Occurs ls) ≡ ls
unfolding literals_among
literals_there [] = refl
literals_there (l ∷ ls) = grind (arith, literals_there ls)

actions_there : (xs : List Action) → actions_among (map Test.Member xs) ≡ xs
unfolding actions_among
actions_there [] = refl
actions_there (a ∷ xs) = grind (arith, actions_there xs)

literals_back : (ts : List Test) → list_all (fits Part.Rules) ts ≡ true → map Test.Occurs (literals_among ts) ≡ ts
unfolding fits literals_among
literals_back [] h = refl
literals_back (t ∷ ts) h = grind (arith, literals_back ts)

actions_back : (ts : List Test) → list_all (fits Part.Constraints) ts ≡ true → map Test.Member (actions_among ts) ≡ ts
unfolding fits actions_among
actions_back [] h = refl
actions_back (t ∷ ts) h = grind (arith, actions_back ts)

module _ (ts : List Test) (cs : List Comparison) where
  pub heads_back : (e : Ending) → list_all (fits (ending_part e)) ts ≡ true → heads_of (line_of ts cs e) ≡ ts
  unfolding line_of heads_of
  heads_back e h = grind (arith, literals_back, actions_back)

-- a line is the line of its parts, and its heads fit it
pub line_again : (l : PolicyLine) → line_of (heads_of l) (comparisons_of l) (ending_of l) ≡ l
unfolding line_of heads_of comparisons_of ending_of
line_again l = grind (arith, literals_there, actions_there)

literals_fit : (ls : List Literal) → list_all (fits Part.Rules) (map Test.Occurs ls) ≡ true
unfolding fits
literals_fit [] = refl
literals_fit (l ∷ ls) = literals_fit ls

actions_fit : (xs : List Action) → list_all (fits Part.Constraints) (map Test.Member xs) ≡ true
unfolding fits
actions_fit [] = refl
actions_fit (a ∷ xs) = actions_fit xs

pub heads_fit : (l : PolicyLine) → list_all (fits (line_part l)) (heads_of l) ≡ true
unfolding heads_of ending_of
heads_fit (rule r) = literals_fit r.literals
heads_fit (constraint c) = actions_fit c.actions
