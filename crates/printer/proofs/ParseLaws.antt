-- Laws of reading back: the tokens of each part of a line are read as that part, and those of a valid line as the line.
use Rattle.std.proofs.Common.{◌<◌, Bool, true, false, not, List, [], ◌∷◌, ◌++◌, map, ◌≡◌, refl, sym, ap, ◌∙◌, arith, ℤ, length, ℕ, Option, Some, None, Ok}
use Rattle.std.proofs.Math.ListN.{length-map}
use Rattle.policy.specs.Limits.{valid, allowed, in_range, crowded, repeated}
use Rattle.policy.specs.Line.{PolicyLine, rule, constraint, heads_of}
use Rattle.policy.specs.declared.comparison.Comparison.{Comparison}
use Rattle.policy.specs.declared.comparison.Literal.{Literal}
use Rattle.policy.specs.declared.comparison.Relation.{Relation}
use Rattle.policy.specs.declared.effect.Effect.{Effect}
use Rattle.policy.specs.declared.line.Test.{Test}
use Rattle.policy.specs.declared.number.Action.{Action}
use Rattle.lexer.specs.Byte.{bytes, bytes_equal, is}
use Rattle.lexer.specs.Token.{Token, named, literal_of, action_of, event_of, reading_of, relation_of, operand_of, both, comparison_of}
use Rattle.syntax.specs.Grammar.{comparisons_from, condition_from, joined, effect_from, yields, never, rule_after, constraint_after, after, line_from}
use Rattle.syntax.specs.Judge.{line_for, judge_line, is_comment, tokens_answer, line_answer}
use Rattle.printer.proofs.DecimalLaws.{decimal_all, number_read, digits_unnamed, constant_read}
use Rattle.printer.proofs.SplitLaws.{line_tokens_is}
use Rattle.policy.proofs.ValidLaws.{valid_tests}
use Rattle.printer.specs.Printed.{constant_token, event_token, literal_token, action_token, effect_tokens, reading_token, relation_token, operand_token, comparison_tokens, joined_by, head_tokens, condition_tokens, line_tokens, line_bytes}

-- ---- the parts

literal_read : (l : Literal) → literal_of (literal_token l) ≡ Some l
unfolding literal_token event_token literal_of named bytes
literal_read l = grind (arith, number_read)

action_read : (a : Action) → action_of (action_token a) ≡ Some a
unfolding action_token action_of named
action_read a = rw (number_read a.0)

relation_read : (r : Relation) → relation_of (relation_token r) ≡ Some r
unfolding relation_token relation_of is bytes bytes_equal
relation_read r = grind arith

constant_unnamed : (k : ℤ) → reading_of (constant_token k) ≡ None
unfolding reading_of constant_token named
constant_unnamed k = grind (arith, digits_unnamed, decimal_all)

comparison_read : (c : Comparison) → comparison_of (reading_token c.reading) (relation_token c.relation) (operand_token c.operand) ≡ Some c
unfolding comparison_of reading_of reading_token operand_of operand_token named
comparison_read c = grind (arith, number_read, relation_read, constant_unnamed, constant_read)

-- ---- the condition

comparisons_read : (c : Comparison) (cs : List Comparison) → comparisons_from (joined_by (bytes ",") (map comparison_tokens (c ∷ cs))) ≡ Some (c ∷ cs)
unfolding comparisons_from joined_by comparison_tokens both is bytes bytes_equal
comparisons_read c [] = rw (comparison_read c)
comparisons_read c (d ∷ ds) = rw (comparison_read c, comparisons_read d ds)

condition_read : (cs : List Comparison) → condition_from (condition_tokens cs) ≡ Some cs
unfolding condition_from condition_tokens is bytes bytes_equal
condition_read [] = refl
condition_read (c ∷ cs) = comparisons_read c cs

-- ---- literals and actions

-- the tokens do not go on with `&`
ended : List Token → Bool
ended [] = true
ended (t ∷ ts) = not (is "&" t)

condition_ended : (cs : List Comparison) → ended (condition_tokens cs) ≡ true
unfolding ended condition_tokens is bytes bytes_equal
condition_ended cs = grind arith

module _ {A : Type 0} (token : A → Token) (item : Token → Option A) (back : (x : A) → item (token x) ≡ Some x) where
  heads_read : (x : A) (xs : List A) (rest : List Token) → ended rest ≡ true
      → joined item (head_tokens token (x ∷ xs) ++ rest) ≡ Some (record { items = x ∷ xs; rest = rest })
  unfolding head_tokens joined_by joined both ended is bytes bytes_equal
  heads_read x [] rest h = grind arith
  heads_read x (y ∷ ys) rest h = rw (back x, heads_read y ys rest h)

  -- the first of them stands first
  heads_first : (x : A) (xs : List A) (rest : List Token) → (ts : List Token) × (head_tokens token (x ∷ xs) ++ rest ≡ token x ∷ ts)
  unfolding head_tokens joined_by
  heads_first x [] rest = (rest, refl)
  heads_first x (y ∷ ys) rest = (bytes "&" ∷ head_tokens token (y ∷ ys) ++ rest, refl)

-- ---- the line

module _ (l : Literal) where
  no_comment : is_comment (literal_token l) ≡ false
  unfolding is_comment literal_token event_token bytes
  no_comment = grind arith

  no_constraint : is "never" (literal_token l) ≡ false
  unfolding literal_token event_token is bytes bytes_equal
  no_constraint = grind arith

-- what stands behind the literals of a rule
module _ (cs : List Comparison) where
  effect_ended : (x : Effect) → ended (effect_tokens x ++ condition_tokens cs) ≡ true
  unfolding ended effect_tokens is bytes bytes_equal
  effect_ended x = grind arith

  effect_read : (x : Effect) (ls : List Literal) → rule_after ls (effect_tokens x ++ condition_tokens cs) ≡ Some (yields ls x cs)
  unfolding effect_tokens effect_from action_token action_of event_token event_of named rule_after both is bytes bytes_equal
  effect_read x ls = grind (arith, number_read, condition_read)

rule_answer : (form : ℕ) (t : Token) (ts : List Token) → is_comment t ≡ false → is "never" t ≡ false
    → tokens_answer form (t ∷ ts) ≡ judge_line (line_for form (after rule_after (joined literal_of (t ∷ ts))))
unfolding tokens_answer line_from
rule_answer form t ts h k = rw (h, k)

-- a line is judged by what its tokens are read as
abbrev Answered : ℕ → PolicyLine → Type 0
Answered form l = tokens_answer form (line_tokens l) ≡ judge_line (line_for form (Some l))

module _ (form : ℕ) (cs : List Comparison) where
  rule_read : (e : Effect) (xs : List Literal) → 0 < length xs → Answered form (yields xs e cs)
  unfolding line_tokens after
  rule_read e [] h = absurd (omega arith)
  rule_read e (x ∷ xs) h =
      let rest = effect_tokens e ++ condition_tokens cs in
      let (others, first) = heads_first literal_token literal_of literal_read x xs rest in
      ap (tokens_answer form) first ∙ rule_answer form (literal_token x) others (no_comment x) (no_constraint x)
      ∙ ap (λ (ts : List Token). judge_line (line_for form (after rule_after (joined literal_of ts)))) (sym first)
      ∙ rw (heads_read literal_token literal_of literal_read x xs rest (effect_ended cs e), effect_read cs e (x ∷ xs))

  constraint_read : (xs : List Action) → 0 < length xs → Answered form (never xs cs)
  unfolding line_tokens tokens_answer is_comment line_from after constraint_after is bytes bytes_equal
  constraint_read [] h = absurd (omega arith)
  constraint_read (x ∷ xs) h = rw (heads_read action_token action_of action_read x xs (condition_tokens cs) (condition_ended cs), condition_read cs)

line_judged : (form : ℕ) (l : PolicyLine) → 0 < length (heads_of l) → Answered form l
unfolding heads_of
line_judged form (rule r) h = rule_read form r.comparisons r.effect r.literals (omega (arith, length-map r.literals Test.Occurs))
line_judged form (constraint c) h = constraint_read form c.comparisons c.actions (omega (arith, length-map c.actions Test.Member))

judge_valid : (form : ℕ) (l : PolicyLine) → allowed form l ≡ true → in_range l ≡ true → crowded l ≡ false → repeated l ≡ false
    → judge_line (line_for form (Some l)) ≡ Ok (Some l)
unfolding line_for judge_line
judge_valid form l a h k m = rw (a, h, k, m)

-- a valid line is read back from its bytes, where the form has it
pub line_read : (form : ℕ) (l : PolicyLine) → allowed form l ≡ true → valid l ≡ true → line_answer form (line_bytes l) ≡ Ok (Some l)
unfolding line_answer
line_read form l a v = grind (arith, valid_tests, line_tokens_is, line_judged, judge_valid)
