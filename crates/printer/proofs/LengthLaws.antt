-- Laws of lengths: the bytes of a valid line.
use Rattle.std.proofs.Common.{ℕ, suc, ◌+◌, ◌*◌, ◌≤◌, ◌<◌, Bool, true, cond, List, [], ◌∷◌, ◌++◌, map, ◌≡◌, sym, ◌∙◌, arith, ℤ, pos, negsuc, length, length-append, leb}
use Rattle.std.proofs.lemmas.Bool.{and_parts}
use Rattle.std.proofs.Math.ListN.{length-map}
use Rattle.std.proofs.lemmas.Bool.Decides.{nat_tests}
use Rattle.std.proofs.lemmas.List.Folds.{list_all-map}
use Rattle.policy.specs.Effect.{effect_number}
use Rattle.policy.specs.Limits.{valid, allowed, trigger_form, is_reading_value, test_number, operand_in_range, comparison_in_range, effect_in_range, ending_in_range, ending_allowed}
use Rattle.policy.specs.Line.{PolicyLine, rule, constraint, heads_of, comparisons_of, ending_of}
use Rattle.std.specs.List.{list_all}
use Rattle.policy.specs.declared.comparison.Comparison.{Comparison}
use Rattle.policy.specs.declared.comparison.Literal.{Literal}
use Rattle.policy.specs.declared.effect.Effect.{Effect}
use Rattle.policy.specs.declared.line.Ending.{Ending}
use Rattle.policy.specs.declared.line.Test.{Test}
use Rattle.policy.specs.declared.number.Action.{Action}
use Rattle.lexer.specs.Byte.{bytes}
use Rattle.lexer.specs.Token.{Token}
use Rattle.output.proofs.DecimalLaws.{decimal_few}
use Rattle.policy.proofs.ValidLaws.{ValidParts, test_in_range, valid_out}
use Rattle.output.specs.Number.{decimal}
use Rattle.printer.specs.Printed.{constant_token, event_token, literal_token, action_token, effect_tokens, reading_token, relation_token, operand_token, comparison_tokens, joined_by, head_tokens, condition_tokens, line_tokens, line_bytes}

-- ---- tokens with a space behind each

room : List Token → ℕ
room [] = 0
room (t ∷ ts) = length t + 1 + room ts

room_append : (ts us : List Token) → room (ts ++ us) ≡ room ts + room us
unfolding room
room_append [] us = omega arith
room_append (t ∷ ts) us = omega (arith, room_append ts us)

joined_short : (ts : List Token) → 0 < length ts → length (joined_by 32 ts) + 1 ≤ room ts
unfolding joined_by room
joined_short [] h = absurd (omega arith)
joined_short (t ∷ []) h = omega arith
joined_short (t ∷ u ∷ us) h = omega (arith, length-append t (32 ∷ joined_by 32 (u ∷ us)), joined_short (u ∷ us) (omega arith))

-- there is one separator fewer than there are elements
module _ {A : Type 0} (p : A → Bool) (f : A → List Token) (sep : Token) (w : ℕ) (fits : (x : A) → p x ≡ true → room (f x) ≤ w) where
  joined_room : (xs : List A) → 0 < length xs → list_all p xs ≡ true → room (joined_by sep (map f xs)) + (length sep + 1) ≤ length xs * (w + (length sep + 1))
  unfolding joined_by room
  joined_room [] n h = absurd (omega arith)
  joined_room (x ∷ []) n h = omega (arith, fits x (and_parts (p x) true h).0)
  joined_room (x ∷ y ∷ ys) n h = grind (arith, and_parts, room_append, joined_room (y ∷ ys))

-- ---- the parts of a line

name_short : (n : ℕ) → n < 100 → length (decimal n) ≤ 2
name_short n h = decimal_few n 1 (omega arith)

literal_short : (l : Literal) → test_in_range (Test.Occurs l) ≡ true → length (literal_token l) ≤ 4
unfolding literal_token event_token bytes test_number
literal_short l h = grind (arith, nat_tests, name_short l.event.0)

action_short : (a : Action) → test_in_range (Test.Member a) ≡ true → length (action_token a) ≤ 3
unfolding action_token test_number
action_short a h = grind (arith, nat_tests, name_short a.0)

constant_short : (k : ℤ) → is_reading_value k ≡ true → length (constant_token k) ≤ 11
unfolding constant_token is_reading_value
constant_short (pos n) h = grind (arith, nat_tests, decimal_few n 9)
constant_short (negsuc n) h = grind (arith, nat_tests, decimal_few (suc n) 9)

comparison_room : (c : Comparison) → comparison_in_range c ≡ true → room (comparison_tokens c) ≤ 19
unfolding comparison_tokens reading_token relation_token operand_token comparison_in_range operand_in_range room bytes
comparison_room c h = grind (arith, nat_tests, name_short, constant_short)

condition_room : (cs : List Comparison) → list_all comparison_in_range cs ≡ true → length cs ≤ 4 → room (condition_tokens cs) ≤ 85
unfolding condition_tokens room bytes
condition_room [] h k = omega arith
condition_room (c ∷ cs) h k = omega (arith, joined_room comparison_in_range comparison_tokens (bytes ",") 19 comparison_room (c ∷ cs) (omega arith) h)

-- `triggers E63`, and where no rule triggers `causes A63`
abbrev effect_width : ℕ → ℕ
effect_width form = cond (leb trigger_form form) 13 11

effect_room : (form : ℕ) (x : Effect) → ending_allowed form (Ending.Yields x) ≡ true → effect_in_range x ≡ true → room (effect_tokens x) ≤ effect_width form
unfolding effect_tokens event_token action_token effect_in_range effect_number ending_allowed test_number room bytes
effect_room form x k h = grind (arith, nat_tests, name_short)

some_effect : (x : Effect) → 0 < length (effect_tokens x)
unfolding effect_tokens
some_effect x = grind arith

-- eight literals or actions
module _ {A : Type 0} (token : A → Token) (test : A → Test) (w : ℕ) (short : (x : A) → test_in_range (test x) ≡ true → length (token x) ≤ w) where
  heads_room : (xs : List A) → 0 < length (map test xs) → list_all test_in_range (map test xs) ≡ true → length (map test xs) ≤ 8 → room (head_tokens token xs) + 2 ≤ length xs * (w + 3)
  unfolding head_tokens bytes room
  heads_room xs n h k =
      let one : (x : A) → test_in_range (test x) ≡ true → room (token x ∷ []) ≤ w + 1 = λ x q. omega (arith, short x q) in
      let e : w + 1 + 2 ≡ w + 3 = omega arith in
      rw (← e) (joined_room (λ x. test_in_range (test x)) (λ x. token x ∷ []) (bytes "&") (w + 1) one xs (omega (arith, length-map xs test)) (sym (list_all-map test_in_range test xs) ∙ h))

-- ---- the line

-- the most bytes that a line of each kind may have, with its end
abbrev pub widest : ℕ → PolicyLine → ℕ
widest form (rule r) = 139 + effect_width form
widest form (constraint c) = 137

line_room : (form : ℕ) (l : PolicyLine) → allowed form l ≡ true → ValidParts (heads_of l) (comparisons_of l) (ending_of l) → room (line_tokens l) ≤ widest form l
unfolding line_tokens heads_of comparisons_of ending_of ending_in_range test_number room bytes
line_room form (rule r) a v =
    let heads = heads_room literal_token Test.Occurs 4 literal_short r.literals v.some v.tests v.few_tests in
    let condition = condition_room r.comparisons v.comparisons v.few_comparisons in
    let all = room_append (head_tokens literal_token r.literals) (effect_tokens r.effect ++ condition_tokens r.comparisons) in
    let behind = room_append (effect_tokens r.effect) (condition_tokens r.comparisons) in
    omega (arith, v, heads, condition, all, behind, length-map r.literals Test.Occurs, effect_room form r.effect a v.ending)
line_room form (constraint c) a v =
    let heads = heads_room action_token Test.Member 3 action_short c.actions v.some v.tests v.few_tests in
    let condition = condition_room c.comparisons v.comparisons v.few_comparisons in
    omega (arith, v, heads, condition, length-map c.actions Test.Member, room_append (head_tokens action_token c.actions) (condition_tokens c.comparisons))

pub some_tokens : (l : PolicyLine) → 0 < length (line_tokens l)
unfolding line_tokens
some_tokens l = grind (arith, length-append, some_effect)

pub line_length_is : (form : ℕ) (l : PolicyLine) → allowed form l ≡ true → valid l ≡ true → length (line_bytes l) + 1 ≤ widest form l
unfolding line_bytes
line_length_is form l a v = omega (arith, joined_short (line_tokens l) (some_tokens l), line_room form l a (valid_out l v))
