-- Which lines an accepted text may have: ranges of numbers, counts, repeats, and how many lines of each kind.
use Rattle.std.specs.Prelude.{ℕ, ◌≤◌, Bool, true, false, not, ◌&&◌, ◌||◌, List, [], ◌∷◌, map, ◌≡◌, ℤ, pos, negsuc, length, nat_eq, nat_lt, nat_le}
use Rattle.std.specs.Int.Signed.{le_z}
use Rattle.policy.specs.Effect.{effect_number}
use Rattle.policy.specs.Line.{PolicyLine, rule, constraint, heads_of, comparisons_of, ending_of}
use Rattle.std.specs.List.{list_all, list_any}
use Rattle.policy.specs.Number.{set_limit, reading_limit}
use Rattle.policy.specs.Policy.{Policy}
use Rattle.policy.specs.declared.comparison.Comparison.{Comparison}
use Rattle.policy.specs.declared.comparison.Operand.{Operand}
use Rattle.policy.specs.declared.effect.Effect.{Effect}
use Rattle.policy.specs.declared.line.Ending.{Ending}
use Rattle.policy.specs.declared.line.Part.{Part}
use Rattle.policy.specs.declared.line.Test.{Test}

-- of literals or actions, and of comparisons, in a line
abbrev pub head_limit : ℕ
head_limit = 8

abbrev pub comparison_limit : ℕ
comparison_limit = 4

-- of rules, and of constraints, in a text
abbrev pub rule_limit : ℕ
rule_limit = 128

abbrev pub constraint_limit : ℕ
constraint_limit = 64

abbrev pub line_limit : Part → ℕ
line_limit Part.Rules = rule_limit
line_limit Part.Constraints = constraint_limit

-- the value of a reading is a signed whole number of 32 bits
unfoldable pub is_reading_value : ℤ → Bool
is_reading_value k = le_z (negsuc 2147483647) k && le_z k (pos 2147483647)

-- the event or the action that a test names
unfoldable pub test_number : Test → ℕ
test_number (Test.Occurs l) = l.event.0
test_number (Test.Member a) = a.0

unfoldable pub operand_in_range : Operand → Bool
operand_in_range (Operand.Constant k) = is_reading_value k
operand_in_range (Operand.Reading r) = nat_lt r.0 reading_limit

unfoldable pub comparison_in_range : Comparison → Bool
comparison_in_range c = nat_lt c.reading.0 reading_limit && operand_in_range c.operand

unfoldable pub effect_in_range : Effect → Bool
effect_in_range x = nat_lt (effect_number x) set_limit

unfoldable pub ending_in_range : Ending → Bool
ending_in_range (Ending.Yields x) = effect_in_range x
ending_in_range Ending.Never = true

-- every number of the line is in range
unfoldable pub in_range : PolicyLine → Bool
in_range l =
    list_all (λ (t : Test). nat_lt (test_number t) set_limit) (heads_of l) && list_all comparison_in_range (comparisons_of l) && ending_in_range (ending_of l)

-- more than eight literals or actions, or more than four comparisons
unfoldable pub crowded : PolicyLine → Bool
crowded l = nat_lt head_limit (length (heads_of l)) || nat_lt comparison_limit (length (comparisons_of l))

-- some number stands twice
unfoldable pub repeats : List ℕ → Bool
repeats [] = false
repeats (n ∷ ns) = list_any (nat_eq n) ns || repeats ns

-- the same event twice, negated or not, or the same action twice among those of a constraint
unfoldable pub repeated : PolicyLine → Bool
repeated l = repeats (map test_number (heads_of l))

-- ---- which lines the texts for a form of images may have: those that trigger events only from a form on

abbrev pub trigger_form : ℕ
trigger_form = 3

unfoldable pub ending_allowed : ℕ → Ending → Bool
ending_allowed form (Ending.Yields (Effect.Triggers e)) = nat_le trigger_form form
ending_allowed form _ = true

abbrev pub allowed : ℕ → PolicyLine → Bool
allowed form l = ending_allowed form (ending_of l)

-- ---- a line, and a policy, that an accepted text may have

unfoldable pub valid : PolicyLine → Bool
valid l = nat_lt 0 (length (heads_of l)) && in_range l && not (crowded l) && not (repeated l)

-- the lines of the policy are valid, those that the form has, and not too many
pub record Acceptable (form : ℕ) (p : Policy) : Type 0 where
  pub rules_valid : list_all valid (map rule p.rules) ≡ true
  pub constraints_valid : list_all valid (map constraint p.constraints) ≡ true
  pub rules_allowed : list_all (allowed form) (map rule p.rules) ≡ true
  pub few_rules : length p.rules ≤ rule_limit
  pub few_constraints : length p.constraints ≤ constraint_limit
