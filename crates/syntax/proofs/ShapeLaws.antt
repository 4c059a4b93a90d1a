-- Laws of the two shapes: the parts that were read are those of the line.
use Rattle.std.proofs.Common.{arith, Some, None, Option, option_map, ℕ, Bool, true, false, cond, List, [], ◌∷◌, map, ◌≡◌, refl, ap, ◌∙◌}
use Rattle.policy.specs.Limits.{ending_in_range}
use Rattle.policy.specs.Line.{PolicyLine, heads_of, comparisons_of, ending_of}
use Rattle.policy.specs.declared.comparison.Literal.{Literal}
use Rattle.policy.specs.declared.line.Ending.{Ending}
use Rattle.policy.specs.declared.line.Test.{Test}
use Rattle.policy.specs.declared.number.Action.{Action}
use Rattle.lexer.specs.Byte.{is}
use Rattle.lexer.specs.Lines.{behind_line}
use Rattle.lexer.specs.Steps.Scan.{tokens_in}
use Rattle.lexer.specs.Token.{Token, both, literal_of, action_of}
use Rattle.token.specs.Steps.PartIn.{test_of}
use Rattle.syntax.specs.Grammar.{Joined, last, before, joined, condition_from, rule_after, constraint_after, after}
use Rattle.syntax.specs.Judge.{line_for}
use Rattle.syntax.specs.Steps.Draft.{end_as, heads_into, ending_into, line_into}
use Rattle.syntax.specs.Steps.Outcome.{heads_read, heads_outcome, condition_outcome, yielded, effect_outcome, rule_for, line_outcome}
use Rattle.syntax.specs.declared.draft.Draft.{Draft}

-- ---- heads as literals or as actions

mapped : {A B : Type 0} → (A → B) → Joined A → Joined B
mapped f j = record { items = map f j.items; rest = j.rest }

module _ {A B : Type 0} (f : A → B) (item : Token → Option A) where
  one_joined : (rest : List Token) (b : Bool) (o : Option A) (j : Option (Joined A)) → cond b (both before (option_map f o) (option_map (mapped f) j)) (option_map (last rest) (option_map f o)) ≡ option_map (mapped f) (cond b (both before o j) (option_map (last rest) o))
  unfolding both mapped
  one_joined rest b o j = grind arith

  joined_map : (ts : List Token) → joined (λ (t : Token). option_map f (item t)) ts ≡ option_map (mapped f) (joined item ts)
  unfolding joined mapped both
  joined_map [] = refl
  joined_map (t ∷ []) = grind arith
  joined_map (t ∷ s ∷ ts) = rw (joined_map ts) (one_joined (s ∷ ts) (is "&" s) (item t) (joined item ts))

-- ---- the parts of a line, from its heads on

module _ (d : Draft) (behind : List ℕ) where
  never_parts : (actions : List Action) (ts : List Token) → line_outcome d behind (constraint_after actions ts) ≡ condition_outcome (end_as (heads_into d (map Test.Member actions)) (Some Ending.Never)) behind (condition_from ts)
  unfolding line_outcome condition_outcome constraint_after line_into ending_into ending_in_range heads_of comparisons_of ending_of
  never_parts actions ts = grind arith

  rule_parts : (form : ℕ) (literals : List Literal) (ts : List Token) → line_outcome d behind (rule_for form literals ts) ≡ effect_outcome form (heads_into d (map Test.Occurs literals)) behind ts
  unfolding line_outcome effect_outcome yielded rule_after both line_for condition_outcome line_into heads_of comparisons_of ending_of
  rule_parts form literals ts = grind arith

  -- the heads that were read, against those of the line
  module _ {A : Type 0} (f : A → Test) (tail : List A → List Token → Option PolicyLine) (o : Option (Joined A)) where
    heads_no : None ≡ heads_outcome d behind (option_map (mapped f) o) → line_outcome d behind (after tail o) ≡ None
    unfolding heads_outcome line_outcome after
    heads_no h = grind arith

    heads_yes : (e : Draft) (rest : List ℕ) → heads_read (Some (e, rest)) ≡ heads_outcome d behind (option_map (mapped f) o) → (made : Draft → List ℕ → List Token → Option (Draft × List ℕ))
        → ((j : Joined A) → line_outcome d behind (tail j.items j.rest) ≡ made (heads_into d (map f j.items)) behind j.rest) → line_outcome d behind (after tail o) ≡ made e (behind_line rest) (tokens_in rest)
    unfolding heads_read heads_outcome line_outcome after mapped
    heads_yes e rest q made law = grind (arith, law)

module _ (d : Draft) (text : List ℕ) where
  abbrev behind : List ℕ
  behind = behind_line text

  abbrev actions : Option (Joined Action)
  actions = joined action_of (tokens_in text)

  abbrev literals : Option (Joined Literal)
  literals = joined literal_of (tokens_in text)

  actions_read : heads_outcome d behind (joined (test_of true) (tokens_in text)) ≡ heads_outcome d behind (option_map (mapped Test.Member) actions)
  unfolding test_of
  actions_read = ap (heads_outcome d behind) (joined_map Test.Member action_of (tokens_in text))

  literals_read : heads_outcome d behind (joined (test_of false) (tokens_in text)) ≡ heads_outcome d behind (option_map (mapped Test.Occurs) literals)
  unfolding test_of
  literals_read = ap (heads_outcome d behind) (joined_map Test.Occurs literal_of (tokens_in text))

  pub constraint_no : heads_read None ≡ heads_outcome d behind (joined (test_of true) (tokens_in text)) → line_outcome d behind (after constraint_after actions) ≡ None
  unfolding heads_read
  constraint_no q = grind (arith, heads_no, actions_read)

  pub constraint_yes : (e : Draft) (rest : List ℕ) → heads_read (Some (e, rest)) ≡ heads_outcome d behind (joined (test_of true) (tokens_in text))
      → line_outcome d behind (after constraint_after actions) ≡ condition_outcome (end_as e (Some Ending.Never)) (behind_line rest) (condition_from (tokens_in rest))
  constraint_yes e rest q =
      heads_yes d behind Test.Member constraint_after actions e rest (q ∙ actions_read) (λ e l ts. condition_outcome (end_as e (Some Ending.Never)) l (condition_from ts)) (λ j. never_parts d behind j.items j.rest)

  pub rule_no : (form : ℕ) → heads_read None ≡ heads_outcome d behind (joined (test_of false) (tokens_in text)) → line_outcome d behind (after (rule_for form) literals) ≡ None
  unfolding heads_read
  rule_no form q = grind (arith, heads_no, literals_read)

  pub rule_yes : (form : ℕ) (e : Draft) (rest : List ℕ) → heads_read (Some (e, rest)) ≡ heads_outcome d behind (joined (test_of false) (tokens_in text))
      → line_outcome d behind (after (rule_for form) literals) ≡ effect_outcome form e (behind_line rest) (tokens_in rest)
  rule_yes form e rest q = heads_yes d behind Test.Occurs (rule_for form) literals e rest (q ∙ literals_read) (effect_outcome form) (λ j. rule_parts d behind form j.items j.rest)
