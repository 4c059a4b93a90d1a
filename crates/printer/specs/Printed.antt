-- The rule text written from a policy (docs/REFERENCE.md, "The rule text"), in one form of its own. The rules come first, then the
-- constraints, one space stands between tokens, and every line is ended.
use Rattle.std.specs.Str.{byte}
use Rattle.std.specs.Prelude.{ℕ, List, [], ◌∷◌, ◌++◌, map, ℤ, if◌then◌else◌, nat_le}
use Rattle.policy.specs.Limits.{trigger_form}
use Rattle.policy.specs.Line.{PolicyLine, rule, constraint}
use Rattle.policy.specs.Policy.{Policy}
use Rattle.policy.specs.declared.comparison.Comparison.{Comparison}
use Rattle.policy.specs.declared.comparison.Literal.{Literal}
use Rattle.policy.specs.declared.comparison.Operand.{Operand}
use Rattle.policy.specs.declared.comparison.Relation.{Relation}
use Rattle.policy.specs.declared.effect.Effect.{Effect}
use Rattle.policy.specs.declared.number.Action.{Action}
use Rattle.policy.specs.declared.number.Event.{Event}
use Rattle.policy.specs.declared.number.Reading.{Reading}
use Rattle.lexer.specs.Byte.{bytes}
use Rattle.lexer.specs.Token.{Token}
use Rattle.output.specs.Number.{decimal, integer}

-- ---- the parts of a line

unfoldable pub constant_token : ℤ → Token
constant_token k = integer k

unfoldable pub event_token : Event → Token
event_token e = byte "E" ∷ decimal e.0

unfoldable pub literal_token : Literal → Token
literal_token l = (if l.negated then bytes "!" else []) ++ event_token l.event

unfoldable pub action_token : Action → Token
action_token a = byte "A" ∷ decimal a.0

unfoldable pub reading_token : Reading → Token
reading_token r = byte "R" ∷ decimal r.0

unfoldable pub relation_token : Relation → Token
relation_token Relation.Equal = bytes "="
relation_token Relation.NotEqual = bytes "!="
relation_token Relation.Less = bytes "<"
relation_token Relation.LessOrEqual = bytes "<="
relation_token Relation.Greater = bytes ">"
relation_token Relation.GreaterOrEqual = bytes ">="

unfoldable pub operand_token : Operand → Token
operand_token (Operand.Constant k) = constant_token k
operand_token (Operand.Reading r) = reading_token r

unfoldable pub comparison_tokens : Comparison → List Token
comparison_tokens c = reading_token c.reading ∷ relation_token c.relation ∷ operand_token c.operand ∷ []

unfoldable pub effect_tokens : Effect → List Token
effect_tokens (Effect.Causes a) = bytes "causes" ∷ action_token a ∷ []
effect_tokens (Effect.Triggers e) = bytes "triggers" ∷ event_token e ∷ []

-- ---- lines

module _ {A : Type 0} where
  -- lists one after another, with one element between each two
  unfoldable pub joined_by : A → List (List A) → List A
  joined_by sep [] = []
  joined_by sep (x ∷ []) = x
  joined_by sep (x ∷ y ∷ ys) = x ++ sep ∷ joined_by sep (y ∷ ys)

module _ {A : Type 0} (token : A → Token) where
  abbrev alone : A → List Token
  alone x = token x ∷ []

  -- literals or actions
  unfoldable pub head_tokens : List A → List Token
  head_tokens xs = joined_by (bytes "&") (map alone xs)

unfoldable pub condition_tokens : List Comparison → List Token
condition_tokens [] = []
condition_tokens (c ∷ cs) = bytes "if" ∷ joined_by (bytes ",") (map comparison_tokens (c ∷ cs))

unfoldable pub line_tokens : PolicyLine → List Token
line_tokens (rule r) = head_tokens literal_token r.literals ++ (effect_tokens r.effect ++ condition_tokens r.comparisons)
line_tokens (constraint c) = bytes "never" ∷ head_tokens action_token c.actions ++ condition_tokens c.comparisons

-- without its end
unfoldable pub line_bytes : PolicyLine → List ℕ
line_bytes l = joined_by (byte " ") (line_tokens l)

-- ---- texts

unfoldable pub lines_text : List PolicyLine → List ℕ
lines_text [] = []
lines_text (l ∷ ls) = line_bytes l ++ 10 ∷ lines_text ls

abbrev pub policy_lines : Policy → List PolicyLine
policy_lines p = map rule p.rules ++ map constraint p.constraints

unfoldable pub text_of : Policy → List ℕ
text_of p = lines_text (policy_lines p)

-- the most bytes that the text of an acceptable policy has: 128 rules of 152 bytes and 64 constraints of 137, with their ends
abbrev pub longest_text : ℕ
longest_text = 28224

-- and that of a policy acceptable for a form: where no rule triggers, a rule has at most 150 bytes
unfoldable pub longest_text_for : ℕ → ℕ
longest_text_for form = if nat_le trigger_form form then longest_text else 27968
