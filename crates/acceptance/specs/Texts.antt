-- What two accepted texts have as one.
use Rattle.std.specs.Prelude.{ℕ, ◌≤◌, List, ◌++◌, ◌≡◌, length, Some}
use Rattle.policy.specs.Limits.{rule_limit, constraint_limit}
use Rattle.policy.specs.Policy.{Policy}
use Rattle.rule_text.specs.Text.{policy_of}

-- the rules of both, and the constraints of both, the first policy's before the second's
abbrev pub joint : Policy → Policy → Policy
joint p q = record { rules = p.rules ++ q.rules; constraints = p.constraints ++ q.constraints }

-- each text is accepted alone, both together have no more lines than a text may have, and the policy has the maker's rules before the
-- site's and the maker's constraints before the site's
pub record Joint (form : ℕ) (maker site : List ℕ) (p : Policy) : Type 0 where
  pub makers : Policy
  pub sites : Policy
  pub maker_read : policy_of form maker ≡ Some makers
  pub site_read : policy_of form site ≡ Some sites
  pub same : p ≡ joint makers sites
  pub few_rules : length p.rules ≤ rule_limit
  pub few_constraints : length p.constraints ≤ constraint_limit
