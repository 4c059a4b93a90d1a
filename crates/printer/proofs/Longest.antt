-- The bound on the length of a text is reached.
use Rattle.std.proofs.Common.{ℕ, zero, suc, ◌+◌, ◌*◌, Bool, true, false, cond, List, [], ◌∷◌, map, ◌≡◌, refl, ap, arith, negsuc, length, replicate, length-append, leb}
use Rattle.std.proofs.lemmas.Bool.{and_from}
use Rattle.std.proofs.Math.ListN.{length-replicate}
use Rattle.policy.specs.Effect.{effect_number}
use Rattle.policy.specs.Limits.{is_reading_value, test_number, operand_in_range, comparison_in_range, effect_in_range, ending_in_range, ending_allowed, in_range, crowded, repeats, repeated, valid, allowed, trigger_form, Acceptable}
use Rattle.policy.specs.Line.{PolicyLine, rule, constraint, heads_of, comparisons_of, ending_of}
use Rattle.std.specs.List.{list_all}
use Rattle.policy.specs.Policy.{Policy, Rule, Constraint}
use Rattle.policy.specs.declared.comparison.Comparison.{Comparison}
use Rattle.policy.specs.declared.comparison.Operand.{Operand}
use Rattle.policy.specs.declared.comparison.Relation.{Relation}
use Rattle.policy.specs.declared.effect.Effect.{Effect}
use Rattle.lexer.specs.Byte.{bytes}
use Rattle.output.specs.Number.{digits, decimal}
use Rattle.printer.proofs.Printing.{lines_append}
use Rattle.printer.specs.Printed.{constant_token, event_token, literal_token, action_token, effect_tokens, reading_token, relation_token, operand_token, comparison_tokens, joined_by, head_tokens, condition_tokens, line_tokens, line_bytes, lines_text, longest_text, longest_text_for, text_of}

-- ---- `!E56 & .. & !E63 triggers E63 if R15 >= -2147483648 , ..`, with `causes A63` where no rule may trigger, and
-- `never A56 & .. & A63 if ..`

eight : List ℕ
eight = 56 ∷ 57 ∷ 58 ∷ 59 ∷ 60 ∷ 61 ∷ 62 ∷ 63 ∷ []

comparisons : List Comparison
comparisons = replicate 4 (record { reading = record { 0 = 15 }; relation = Relation.GreaterOrEqual; operand = Operand.Constant (negsuc 2147483647) })

long_effect : Bool → Effect
long_effect true = Effect.Triggers (record { 0 = 63 })
long_effect false = Effect.Causes (record { 0 = 63 })

long_rule : Bool → Rule
long_rule triggers =
    record { literals = map (λ (n : ℕ). record { event = record { 0 = n }; negated = true }) eight; effect = long_effect triggers; comparisons = comparisons }

long_constraint : Constraint
long_constraint = record { actions = map (λ (n : ℕ). record { 0 = n }) eight; comparisons = comparisons }

-- ---- as many of them as there may be

module _ {A : Type 0} (line : A → PolicyLine) (x : A) where
  copies_all : (p : PolicyLine → Bool) → p (line x) ≡ true → (n : ℕ) → list_all p (map line (replicate n x)) ≡ true
  copies_all p v zero = refl
  copies_all p v (suc n) = and_from _ _ v (copies_all p v n)

  copies_long : (w : ℕ) → length (line_bytes (line x)) + 1 ≡ w → (n : ℕ) → length (lines_text (map line (replicate n x))) ≡ n * w
  unfolding lines_text
  copies_long w e zero = omega arith
  copies_long w e (suc n) = omega (arith, copies_long w e n, length-append (line_bytes (line x)) (10 ∷ lines_text (map line (replicate n x))))

longest : Bool → Policy
longest triggers = record { rules = replicate 128 (long_rule triggers); constraints = replicate 64 long_constraint }

rule_long : (triggers : Bool) → length (line_bytes (rule (long_rule triggers))) + 1 ≡ cond triggers 152 150
unfolding eight comparisons long_effect long_rule bytes digits decimal constant_token event_token literal_token action_token effect_tokens reading_token relation_token operand_token comparison_tokens joined_by head_tokens condition_tokens line_tokens line_bytes
rule_long true = refl
rule_long false = refl

constraint_long : length (line_bytes (constraint long_constraint)) + 1 ≡ 137
unfolding eight comparisons long_constraint bytes digits decimal constant_token literal_token action_token reading_token relation_token operand_token comparison_tokens joined_by head_tokens condition_tokens line_tokens line_bytes
constraint_long = refl

rule_valid : (triggers : Bool) → valid (rule (long_rule triggers)) ≡ true
unfolding eight comparisons long_effect long_rule is_reading_value test_number effect_number operand_in_range comparison_in_range effect_in_range ending_in_range in_range crowded repeats repeated valid heads_of comparisons_of ending_of
rule_valid true = refl
rule_valid false = refl

constraint_valid : valid (constraint long_constraint) ≡ true
unfolding eight comparisons long_constraint is_reading_value test_number operand_in_range comparison_in_range ending_in_range in_range crowded repeats repeated valid heads_of comparisons_of ending_of
constraint_valid = refl

rule_allowed : (form : ℕ) (triggers : Bool) → leb trigger_form form ≡ triggers → allowed form (rule (long_rule triggers)) ≡ true
unfolding long_effect long_rule ending_of ending_allowed
rule_allowed form triggers e = grind arith

longest_long : (triggers : Bool) → length (text_of (longest triggers)) ≡ cond triggers longest_text 27968
unfolding text_of longest
longest_long triggers =
    let rs : List PolicyLine = map rule (replicate 128 (long_rule triggers)) in
    let cs : List PolicyLine = map constraint (replicate 64 long_constraint) in
    let rules = copies_long rule (long_rule triggers) (cond triggers 152 150) (rule_long triggers) 128 in
    let constraints = copies_long constraint long_constraint 137 constraint_long 64 in
    omega (arith, ap length (lines_append rs cs), length-append (lines_text rs) (lines_text cs), rules, constraints, sum triggers)
  where
    sum : (b : Bool) → 128 * cond b 152 150 + 64 * 137 ≡ cond b longest_text 27968
    sum b = grind arith

-- for each form some acceptable policy has a text of so many bytes
pub longest_reached : (form : ℕ) → (p : Policy) × (Acceptable form p × (length (text_of p) ≡ longest_text_for form))
unfolding longest longest_text_for
longest_reached form =
    let triggers : Bool = leb trigger_form form in
    let rules : (p : PolicyLine → Bool) → p (rule (long_rule triggers)) ≡ true → list_all p (map rule (replicate 128 (long_rule triggers))) ≡ true =
    λ p h. copies_all rule (long_rule triggers) p h 128 in
    let constraints = copies_all constraint long_constraint valid constraint_valid 64 in (
      longest triggers,
      (grind (arith, rules valid (rule_valid triggers), constraints, rules (allowed form) (rule_allowed form triggers refl), length-replicate), longest_long triggers),
    )
