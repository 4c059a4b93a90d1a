-- The grammar of a line as it is written, without a way to read it: which tokens are those of a rule, of a constraint. Numbers have any size
-- and lists any length; ranges, counts and repeats are tests on a line that is read.
use Rattle.std.specs.Prelude.{ℕ, true, false, List, [], ◌∷◌, ◌++◌, ◌≡◌, Option, Some}
use Rattle.policy.specs.Line.{PolicyLine, rule, constraint}
use Rattle.policy.specs.Policy.{Rule, Constraint}
use Rattle.policy.specs.declared.comparison.Comparison.{Comparison}
use Rattle.policy.specs.declared.effect.Effect.{Effect}
use Rattle.lexer.specs.Byte.{is}
use Rattle.lexer.specs.Token.{Token, literal_of, action_of, event_of, comparison_of}
use Rattle.lexer.specs.Lines.{tokens_of}
use Rattle.syntax.specs.Judge.{is_comment}

-- one or more items, joined by `&`
unfoldable pub AreJoined : {A : Type 0} → (Token → Option A) → List Token → List A → Type 0
AreJoined item (t ∷ []) (x ∷ []) = item t ≡ Some x
AreJoined item (t ∷ s ∷ ts) (x ∷ xs) = (item t ≡ Some x) × (is "&" s ≡ true) × AreJoined item ts xs
AreJoined _ _ _ = ⊥

-- one or more comparisons of three tokens each, joined by `,`
unfoldable pub AreComparisons : List Token → List Comparison → Type 0
AreComparisons (r ∷ relation ∷ o ∷ []) (c ∷ []) = comparison_of r relation o ≡ Some c
AreComparisons (r ∷ relation ∷ o ∷ s ∷ ts) (c ∷ cs) = (comparison_of r relation o ≡ Some c) × (is "," s ≡ true) × AreComparisons ts cs
AreComparisons _ _ = ⊥

-- `if` and comparisons, or nothing
unfoldable pub AreCondition : List Token → List Comparison → Type 0
AreCondition [] cs = cs ≡ []
AreCondition (t ∷ ts) cs = (is "if" t ≡ true) × AreComparisons ts cs

-- `causes` and an action, or `triggers` and an event
unfoldable pub IsEffect : (keyword name : Token) → Effect → Type 0
IsEffect keyword name (Effect.Causes a) = (is "causes" keyword ≡ true) × (action_of name ≡ Some a)
IsEffect keyword name (Effect.Triggers e) = (is "triggers" keyword ≡ true) × (event_of name ≡ Some e)

-- literals, an effect, a condition
pub record IsRule (ts : List Token) (r : Rule) : Type 0 where
  pub literals : List Token
  pub keyword : Token
  pub name : Token
  pub condition : List Token
  pub tokens : ts ≡ literals ++ keyword ∷ name ∷ condition
  pub are_literals : AreJoined literal_of literals r.literals
  pub is_effect : IsEffect keyword name r.effect
  pub are_condition : AreCondition condition r.comparisons

-- `never`, actions, a condition
pub record IsConstraint (ts : List Token) (c : Constraint) : Type 0 where
  pub keyword : Token
  pub actions : List Token
  pub condition : List Token
  pub tokens : ts ≡ keyword ∷ actions ++ condition
  pub never : is "never" keyword ≡ true
  pub are_actions : AreJoined action_of actions c.actions
  pub are_condition : AreCondition condition c.comparisons

-- the tokens of a line
abbrev pub IsLine : List Token → PolicyLine → Type 0
IsLine ts (rule r) = IsRule ts r
IsLine ts (constraint c) = IsConstraint ts c

-- a line of bytes whose tokens are written as a line: it is not blank, and no comment
pub record IsWritten (line : List ℕ) (l : PolicyLine) : Type 0 where
  pub first : Token
  pub others : List Token
  pub tokens : tokens_of line ≡ first ∷ others
  pub no_comment : is_comment first ≡ false
  pub written : IsLine (first ∷ others) l
