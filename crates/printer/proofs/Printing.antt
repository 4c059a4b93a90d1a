-- The text of an acceptable policy: it is within the limit, reading it back yields the policy, and no other policy has it.
use Rattle.std.proofs.Common.{ℕ, suc, ◌+◌, ◌*◌, ◌≤◌, ◌<◌, Bool, true, cond, List, [], ◌∷◌, ◌++◌, map, append_assoc, append-nil, ◌↔◌, ◌≡◌, refl, sym, ap, ◌∙◌, arith, lt-ltb, le-ltb, length, length-append, Some, Ok, leb}
use Rattle.std.proofs.lemmas.List.{map-append}
use Rattle.std.proofs.Math.Seq.{append_snoc}
use Rattle.policy.specs.Limits.{valid, allowed, ending_allowed, trigger_form, rule_limit, constraint_limit, Acceptable}
use Rattle.policy.specs.Line.{PolicyLine, rule, constraint, ending_of}
use Rattle.std.specs.List.{list_all}
use Rattle.policy.specs.Policy.{Policy, Rule, Constraint}
use Rattle.acceptance.proofs.Accepted.{accepted_acceptable}
use Rattle.rule_text.proofs.ReadLaws.{read_added, first_read}
use Rattle.rule_text.specs.Text.{has_room, with_line, read_lines, empty_policy, text_limit, read_text_behind, read_text, policy_of}
use Rattle.printer.proofs.LengthLaws.{widest, line_length_is}
use Rattle.printer.proofs.ParseLaws.{line_read}
use Rattle.printer.proofs.SplitLaws.{text_lines, ascii, lines_ascii}
use Rattle.printer.specs.Printed.{line_bytes, lines_text, policy_lines, longest_text, longest_text_for, text_of}

-- ---- constraints are lines of every form

pub constraints_allowed : (form : ℕ) (cs : List Constraint) → list_all (allowed form) (map constraint cs) ≡ true
unfolding ending_of ending_allowed
constraints_allowed form [] = refl
constraints_allowed form (c ∷ cs) = constraints_allowed form cs

-- ---- the length

module _ (form : ℕ) where
  lines_length : {A : Type 0} (line : A → PolicyLine) (w : ℕ) → ((x : A) → widest form (line x) ≡ w) → (xs : List A)
      → list_all (allowed form) (map line xs) ≡ true → list_all valid (map line xs) ≡ true → length (lines_text (map line xs)) ≤ length xs * w
  unfolding lines_text
  lines_length line w width [] a h = omega arith
  lines_length line w width (x ∷ xs) a h = grind (arith, width x, length-append, line_length_is form (line x), lines_length line w width xs)

pub lines_append : (ls ms : List PolicyLine) → lines_text (ls ++ ms) ≡ lines_text ls ++ lines_text ms
unfolding lines_text
lines_append [] ms = refl
lines_append (l ∷ ls) ms = ap (λ (s : List ℕ). line_bytes l ++ 10 ∷ s) (lines_append ls ms) ∙ sym (append_assoc (line_bytes l) (10 ∷ lines_text ls) (lines_text ms))

module _ (form : ℕ) (p : Policy) (a : Acceptable form p) where
  abbrev width : Bool → ℕ
  width b = 139 + cond b 13 11

  widths : (b : Bool) → length p.rules * width b + length p.constraints * 137 ≤ cond b longest_text 27968
  widths b = grind (arith, a.few_rules, a.few_constraints)

  pub text_length_for : length (text_of p) ≤ longest_text_for form
  unfolding text_of longest_text_for
  text_length_for =
      let rs : List PolicyLine = map rule p.rules in
      let cs : List PolicyLine = map constraint p.constraints in
      let rules = lines_length form rule (width (leb trigger_form form)) (λ r. refl) p.rules a.rules_allowed a.rules_valid in
      let constraints = lines_length form constraint 137 (λ c. refl) p.constraints (constraints_allowed form p.constraints) a.constraints_valid in
      omega (arith, ap length (lines_append rs cs), length-append (lines_text rs) (lines_text cs), rules, constraints, widths (leb trigger_form form))

  pub text_length : length (text_of p) ≤ longest_text
  unfolding longest_text_for
  text_length = grind (arith, text_length_for)

-- ---- reading it back, one part after the other

module _ {A : Type 0} (line : A → PolicyLine) (part : List A → Policy) (limit : ℕ) where
  -- a line goes to the end of its part, if there is room for it
  abbrev Adds : Type 0
  Adds = (xs : List A) (x : A) → length xs < limit → (has_room (part xs) (line x) ≡ true) × (with_line (part xs) (line x) ≡ part (xs ++ x ∷ []))

  part_read : (form : ℕ) → Adds → (xs read : List A) (rest : List (List ℕ)) (n : ℕ) → list_all (allowed form) (map line xs) ≡ true → list_all valid (map line xs) ≡ true
      → length read + length xs ≤ limit
      → read_lines form n (part read) (map line_bytes (map line xs) ++ rest) ≡ read_lines form (n + length xs) (part (read ++ xs)) rest
  part_read form add [] read rest n a v h = rw (append-nil read) (ap (λ (k : ℕ). read_lines form k (part read) rest) (omega arith))
  part_read form add (x ∷ xs) read rest n a v h =
      let k = add read x (omega arith) in
      let one = first_read form n (part read) (line_bytes (line x)) (map line_bytes (map line xs) ++ rest) (part (read ++ x ∷ [])) in
      let later = part_read form add xs (read ++ x ∷ []) rest (suc n) in
      grind (arith, k, read_added form (part read) (line_bytes (line x)) (line x), line_read form (line x), one, later, append_snoc, length-append)

abbrev policy_with : List Rule → List Constraint → Policy
policy_with rs cs = record { rules = rs; constraints = cs }

add_rule : Adds rule (λ rs. policy_with rs []) rule_limit
unfolding with_line ending_of
add_rule rs r h = (lt-ltb (length rs) rule_limit h, refl)

add_constraint : (rs : List Rule) → Adds constraint (policy_with rs) constraint_limit
unfolding with_line ending_of
add_constraint rs cs c h = (lt-ltb (length cs) constraint_limit h, refl)

module _ (form : ℕ) (p : Policy) where
  lines_read : Acceptable form p → read_lines form 1 empty_policy (map line_bytes (policy_lines p)) ≡ Ok p
  unfolding read_lines
  lines_read a =
      let rs : List (List ℕ) = map line_bytes (map rule p.rules) in
      let cs : List (List ℕ) = map line_bytes (map constraint p.constraints) in
      ap (read_lines form 1 empty_policy) (map-append line_bytes (map rule p.rules) (map constraint p.constraints) ∙ ap (λ (x : List (List ℕ)). rs ++ x) (sym (append-nil cs)))
      ∙ part_read rule (λ rs. policy_with rs []) rule_limit form add_rule p.rules [] (cs ++ []) 1 a.rules_allowed a.rules_valid (omega (arith, a.few_rules))
      ∙ part_read constraint (policy_with p.rules) constraint_limit form (add_constraint p.rules) p.constraints [] [] (1 + length p.rules)
      (constraints_allowed form p.constraints) a.constraints_valid (omega (arith, a.few_constraints))

  pub text_read_is : Acceptable form p → read_text form (text_of p) ≡ Ok p
  unfolding read_text read_text_behind text_of
  text_read_is a = rw (le-ltb text_limit (length (text_of p)) (omega (arith, text_length form p a)), text_lines (policy_lines p), lines_read a)

  pub text_policy : Acceptable form p → policy_of form (text_of p) ≡ Some p
  text_policy a = rw (text_read_is a)

  -- so the acceptable policies are those of the accepted texts
  pub acceptable_texts : Acceptable form p ↔ ((text : List ℕ) × (read_text form text ≡ Ok p))
  acceptable_texts = (λ a. (text_of p, text_read_is a), λ r. accepted_acceptable form r.0 p r.1)

  every_allowed : (rs : List Rule) → list_all (allowed trigger_form) (map rule rs) ≡ true
  unfolding ending_of ending_allowed
  every_allowed [] = refl
  every_allowed (r ∷ rs) = grind (arith, every_allowed rs)

  -- a policy acceptable for some form is so for the first that has every line
  acceptable_later : Acceptable form p → Acceptable trigger_form p
  acceptable_later a = grind (arith, every_allowed)

-- whatever forms they are for
pub text_injective : (f g : ℕ) (p q : Policy) → Acceptable f p → Acceptable g q → text_of p ≡ text_of q → p ≡ q
text_injective f g p q a b e =
    let k = text_policy trigger_form p (acceptable_later f p a) in let l = text_policy trigger_form q (acceptable_later g q b) in cc

-- it is ASCII
pub text_ascii : (p : Policy) → list_all ascii (text_of p) ≡ true
unfolding text_of
text_ascii p = lines_ascii (policy_lines p)
