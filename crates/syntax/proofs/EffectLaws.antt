-- Laws of reading the effect and the condition of a rule, and of telling the two shapes apart.
use Rattle.std.proofs.Common.{ℕ, false, cond, List, ◌≡◌, refl, arith, Some, None, option_map, Option, leb}
use Rattle.policy.specs.Effect.{effect_number}
use Rattle.policy.specs.Limits.{effect_in_range, ending_in_range, ending_allowed}
use Rattle.policy.specs.Line.{PolicyLine, ending_of}
use Rattle.policy.specs.Number.{check_action, check_event}
use Rattle.policy.specs.declared.effect.Effect.{Effect}
use Rattle.policy.specs.declared.line.Ending.{Ending}
use Rattle.policy.specs.declared.number.Action.{Action}
use Rattle.lexer.proofs.KeywordLaws.{keyword_some, keyword_none}
use Rattle.lexer.proofs.TokenLaws.{tokens_first}
use Rattle.lexer.specs.Byte.{bytes, bytes_equal, is}
use Rattle.lexer.specs.Lines.{behind_line}
use Rattle.lexer.specs.Number.{is_empty}
use Rattle.lexer.specs.Steps.Scan.{token_in, without_spaces, keyword_in, name_in, action_in, event_in, tokens_in}
use Rattle.lexer.specs.Token.{Token, named, action_of, event_of, literal_of}
use Rattle.token.proofs.PartLaws.{Parted, part_none}
use Rattle.syntax.proofs.FrontLaws.{behind_first, first_token, ended, Started, started, no_space, worded}
use Rattle.syntax.specs.Grammar.{Joined, effect_from, condition_from, joined, rule_after, constraint_after, after, line_from}
use Rattle.syntax.specs.Judge.{line_for}
use Rattle.syntax.specs.Steps.Draft.{end_as, ending_into}
use Rattle.syntax.specs.Steps.Effect.{causes_in, triggers_in, effect_for, effect_in}
use Rattle.syntax.specs.Steps.Outcome.{condition_outcome, yielded, effect_outcome, rule_for, line_outcome}
use Rattle.syntax.specs.declared.draft.Draft.{Draft}

-- ---- an effect, by its name and its keyword

pub causes_by_name : (text : List ℕ) → causes_in text ≡ option_map (λ (r : ℕ × List ℕ). (option_map Effect.Causes (check_action r.0), r.1)) (action_in text)
unfolding causes_in action_of name_in effect_number effect_in_range
causes_by_name text = grind arith

pub triggers_by_name : (text : List ℕ) → triggers_in text ≡ option_map (λ (r : ℕ × List ℕ). (option_map Effect.Triggers (check_event r.0), r.1)) (event_in text)
unfolding triggers_in event_of name_in effect_number effect_in_range
triggers_by_name text = grind arith

-- by what stands behind `causes`, or else behind `triggers`
abbrev pub triggers_behind : Option (List ℕ) → Option (Option Effect × List ℕ)
triggers_behind None = None
triggers_behind (Some rest) = triggers_in (without_spaces rest)

abbrev pub effect_behind : ℕ → Option (List ℕ) → Option (List ℕ) → Option (Option Effect × List ℕ)
effect_behind form (Some rest) _ = causes_in (without_spaces rest)
effect_behind form None behind = cond (leb 3 form) (triggers_behind behind) None

pub effect_by_keyword : (form : ℕ) (text : List ℕ) → effect_in form text ≡ effect_behind form (keyword_in text (bytes "causes")) (keyword_in text (bytes "triggers"))
unfolding effect_in effect_from is causes_in triggers_in action_of event_of ending_allowed bytes bytes_equal
effect_by_keyword form text = grind (arith, keyword_none, keyword_some)

-- ---- a turn of reading

module _ (form : ℕ) (x : Effect) where
  solid_keyword : (k t : Token) → effect_for form (effect_from k t) ≡ Some x → is_empty k ≡ false
  unfolding effect_from is bytes bytes_equal
  solid_keyword k t h = grind arith

  solid_effect : (k t : Token) → effect_for form (effect_from k t) ≡ Some x → is_empty t ≡ false
  unfolding effect_from action_of event_of named
  solid_effect k t h = grind arith

module _ (form : ℕ) (d : Draft) (text : List ℕ) where
  abbrev second : List ℕ
  second = behind_first text

  abbrev two : Option Effect
  two = effect_for form (effect_from (first_token text) (first_token second))

  abbrev outcome : Option (Draft × List ℕ)
  outcome = effect_outcome form d (behind_line text) (tokens_in text)

  pub effect_failed : effect_in form (without_spaces text) ≡ None → outcome ≡ None
  unfolding effect_in effect_outcome yielded
  effect_failed q = grind (arith, part_none effect_in_range (behind_first second) two q, ended text, started text, ended second, started second)

  module _ (part : Option Effect) (e : List ℕ) (q : effect_in form (without_spaces text) ≡ Some (part, e)) where
    found : Parted Effect effect_in_range (behind_first second) two part e
    unfolding effect_in
    found = grind arith

    s1 : Started text
    s1 = started text (solid_keyword form found.part (first_token text) (first_token second) found.is)

    s2 : Started second
    s2 = started second (solid_effect form found.part (first_token text) (first_token second) found.is)

    pub effect_read : outcome ≡ condition_outcome (end_as d (option_map Ending.Yields part)) (behind_line e) (condition_from (tokens_in e))
    unfolding effect_outcome yielded ending_into ending_in_range
    effect_read = grind (arith, s1, s2, found)

-- ---- the shape of the line, by its first token

-- a line for a form, by its heads
module _ (form : ℕ) where
  after_for : {A : Type 0} (f : List A → List Token → Option PolicyLine) (o : Option (Joined A)) → line_for form (after f o) ≡ after (λ (xs : List A) (ts : List Token). line_for form (f xs ts)) o
  unfolding line_for after
  after_for f o = grind arith

  constraints_for : (o : Option (Joined Action)) → line_for form (after constraint_after o) ≡ after constraint_after o
  unfolding after line_for constraint_after ending_allowed ending_of
  constraints_for o = grind arith

module _ (form : ℕ) (d : Draft) (text : List ℕ) (h : is_empty (token_in text) ≡ false) where
  abbrev line : Option (Draft × List ℕ)
  line = line_outcome d (behind_line text) (line_for form (line_from (tokens_in text)))

  pub line_never : (b : List ℕ) → keyword_in text (bytes "never") ≡ Some b → line ≡ line_outcome d (behind_line b) (after constraint_after (joined action_of (tokens_in b)))
  unfolding line_from is bytes bytes_equal
  line_never b w = grind (arith, worded text (bytes "never") b refl, no_space text h, constraints_for form (joined action_of (tokens_in b)))

  pub line_rule : keyword_in text (bytes "never") ≡ None → line ≡ line_outcome d (behind_line text) (after (rule_for form) (joined literal_of (tokens_in text)))
  unfolding line_from is
  line_rule w = grind (arith, tokens_first text h, keyword_none text (bytes "never") w, after_for form rule_after (joined literal_of (tokens_in text)))
