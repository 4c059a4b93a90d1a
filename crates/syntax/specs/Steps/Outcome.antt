-- What reading a part of a line yields: nothing where its shape is wrong, and otherwise the draft with it, and what stands behind it.
use Rattle.std.specs.Prelude.{ℕ, List, ◌∷◌, Some, None, Option}
use Rattle.policy.specs.Line.{PolicyLine}
use Rattle.policy.specs.declared.comparison.Comparison.{Comparison}
use Rattle.policy.specs.declared.comparison.Literal.{Literal}
use Rattle.policy.specs.declared.line.Ending.{Ending}
use Rattle.policy.specs.declared.line.Test.{Test}
use Rattle.policy.specs.declared.effect.Effect.{Effect}
use Rattle.lexer.specs.Lines.{behind_line}
use Rattle.lexer.specs.Steps.Scan.{tokens_in}
use Rattle.lexer.specs.Token.{Token}
use Rattle.syntax.specs.Grammar.{Joined, effect_from, condition_from, rule_after}
use Rattle.syntax.specs.Judge.{line_for}
use Rattle.syntax.specs.Steps.Effect.{effect_for}
use Rattle.syntax.specs.Steps.Draft.{heads_into, comparisons_into, ending_into, line_into}
use Rattle.syntax.specs.declared.draft.Draft.{Draft}

-- ---- the heads

-- the draft with heads, the tokens that are left of the line, and what stands behind the line
pub record HeadsRead : Type 0 where
  pub draft : Draft
  pub tokens : List Token
  pub behind : List ℕ

unfoldable pub heads_read : Option (Draft × List ℕ) → Option HeadsRead
heads_read None = None
heads_read (Some (draft, rest)) = Some (record { draft = draft; tokens = tokens_in rest; behind = behind_line rest })

unfoldable pub heads_outcome : Draft → List ℕ → Option (Joined Test) → Option HeadsRead
heads_outcome d behind None = None
heads_outcome d behind (Some j) = Some (record { draft = heads_into d j.items; tokens = j.rest; behind = behind })

-- ---- what ends the line, so that the rest of the text is what stands behind it

unfoldable pub condition_outcome : Draft → List ℕ → Option (List Comparison) → Option (Draft × List ℕ)
condition_outcome d behind None = None
condition_outcome d behind (Some cs) = Some (comparisons_into d cs, behind)

-- what follows the literals of a rule
unfoldable pub yielded : Draft → List ℕ → Option Effect → Option (List Comparison) → Option (Draft × List ℕ)
yielded d behind None o = None
yielded d behind (Some x) o = condition_outcome (ending_into d (Ending.Yields x)) behind o

unfoldable pub effect_outcome : ℕ → Draft → List ℕ → List Token → Option (Draft × List ℕ)
effect_outcome form d behind (keyword ∷ t ∷ ts) = yielded d behind (effect_for form (effect_from keyword t)) (condition_from ts)
effect_outcome _ _ _ _ = None

-- a rule, if the form has it
abbrev pub rule_for : ℕ → List Literal → List Token → Option PolicyLine
rule_for form literals ts = line_for form (rule_after literals ts)

-- the whole line
unfoldable pub line_outcome : Draft → List ℕ → Option PolicyLine → Option (Draft × List ℕ)
line_outcome d behind None = None
line_outcome d behind (Some l) = Some (line_into d l, behind)
