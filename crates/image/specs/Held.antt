-- The policy that a taken image holds.
use Rattle.std.specs.Prelude.{ℕ, List, [], ◌∷◌, map, Result, Ok, Err}
use Rattle.policy.specs.Line.{PolicyLine, rule, constraint}
use Rattle.policy.specs.Policy.{Policy, Rule, Constraint}
use Rattle.policy.specs.declared.line.Part.{Part}
use Rattle.word.specs.Word.{words_of}
use Rattle.image.specs.Lines.{rule_lines, constraint_lines}

unfoldable pub rules_in : List PolicyLine → List Rule
rules_in [] = []
rules_in (rule r ∷ ls) = r ∷ rules_in ls
rules_in (constraint c ∷ ls) = rules_in ls

unfoldable pub constraints_in : List PolicyLine → List Constraint
constraints_in [] = []
constraints_in (rule r ∷ ls) = constraints_in ls
constraints_in (constraint c ∷ ls) = c ∷ constraints_in ls

unfoldable pub lines_in : Result (List PolicyLine) ℕ → List PolicyLine
lines_in (Ok ls) = ls
lines_in (Err at) = []

unfoldable pub policy_in : List ℕ → Policy
policy_in bytes =
    record { rules = rules_in (lines_in (rule_lines (words_of bytes))); constraints = constraints_in (lines_in (constraint_lines (words_of bytes))) }

-- its lines of a part
abbrev pub lines_held : List ℕ → Part → List PolicyLine
lines_held bytes Part.Rules = map rule (policy_in bytes).rules
lines_held bytes Part.Constraints = map constraint (policy_in bytes).constraints
