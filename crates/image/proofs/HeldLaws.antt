-- The lines of an image that is taken are those of the policy that it holds.
use Rattle.std.proofs.Common.{ℕ, zero, suc, ◌+◌, ◌<◌, ◌≤◌, true, List, [], ◌∷◌, ◌++◌, map, ◌⊎◌, ◌≡◌, refl, ap, ◌∙◌, arith, length, take, drop, length-take, length-drop, Result, Ok, Err, Option, Some, None}
use Rattle.std.proofs.lemmas.Bool.{and_from, and_parts}
use Rattle.policy.specs.Limits.{allowed}
use Rattle.policy.specs.Line.{PolicyLine, rule, constraint, part_get}
use Rattle.std.specs.List.{list_all}
use Rattle.policy.specs.declared.line.Part.{Part}
use Rattle.word.specs.Word.{words_of, between}
use Rattle.layout.specs.Layout.{line_words, lines_words, known_form, check_count, rule_word_limit, constraint_word_limit}
use Rattle.decode.proofs.DecodeLaws.{line_out}
use Rattle.decode.specs.Decode.{line_at}
use Rattle.decode.specs.Stands.{in_part, AreLines}
use Rattle.image.proofs.GivenLaws.{lines_given}
use Rattle.image.specs.Check.{form_byte, rule_words, constraint_words, well_sized, counts_fit, sums_to_zero, weights_right}
use Rattle.image.specs.Held.{rules_in, constraints_in, lines_in, policy_in, lines_held}
use Rattle.image.specs.Lines.{add_line, after_line, lines_from, part_lines, rule_part, constraint_part, rule_lines, constraint_lines}
use Rattle.std.proofs.lemmas.Bool.Decides.{nat_tests}
use Rattle.image.proofs.WholeLaws.{are_whole}
use Rattle.image.specs.Steps.Part.{part_answer}
use Rattle.operation.specs.Whole.{whole_lines}
use Rattle.image.specs.Load.{Contents, body_answer, load_words, load}
use Rattle.image.specs.Walk.{lines_behind}

-- ---- what is found was written

-- the answer at a line start: the line that fits and what follows it, or where none fits
pub after_ok : (at : ℕ) (found : Option PolicyLine) (next : PolicyLine → Result (List PolicyLine) ℕ) (ls : List PolicyLine) → after_line at found next ≡ Ok ls → (l : PolicyLine) × (ms : List PolicyLine) × (found ≡ Some l) × (next l ≡ Ok ms) × (ls ≡ l ∷ ms)
unfolding after_line add_line
after_ok at found next ls e = grind arith

pub after_err : (at location : ℕ) (found : Option PolicyLine) (next : PolicyLine → Result (List PolicyLine) ℕ) → after_line at found next ≡ Err location → ((found ≡ None) × (location ≡ at)) ⊎ ((l : PolicyLine) × (found ≡ Some l) × (next l ≡ Err location))
unfolding after_line add_line
after_err at location found next e = grind arith

are_none : (form : ℕ) (part : Part) (room : ℕ) (ls : List PolicyLine) → ls ≡ [] → AreLines form part room [] ls
unfolding lines_words
are_none form part room ls e = rw e (record { kind = refl; sound = refl; few = omega arith; words = refl })

pub lines_written : (form : ℕ) (part : Part) (room at : ℕ) (ws : List ℕ) (ls : List PolicyLine) → lines_from form part room at ws ≡ Ok ls → AreLines form part room ws ls
unfolding lines_from lines_words
lines_written form part zero at [] ls e = are_none form part zero ls cc
lines_written form part zero at (w ∷ ws) ls e = cc
lines_written form part (suc room) at [] ls e = are_none form part (suc room) ls cc
lines_written form part (suc room) at (w ∷ ws) ls e =
    let h = after_ok at (line_at form part (w ∷ ws)) (λ (l : PolicyLine). lines_from form part room (at + length (line_words l)) (drop (length (line_words l)) (w ∷ ws))) ls e in
    let s = line_out form part (w ∷ ws) h.0 h.2 in
    let r = lines_written form part room (at + length (line_words h.0)) (drop (length (line_words h.0)) (w ∷ ws)) h.1 h.3 in
    rw h.4 (record { kind = and_from _ _ s.kind r.kind; sound = and_from _ _ s.sound r.sound; few = omega (arith, r.few); words = s.words ∙ ap (λ (x : List ℕ). line_words h.0 ++ x) r.words })

-- what was counted to its end is whole lines
pub part_ok : (n m : ℕ) (x : Result (List PolicyLine) ℕ) → part_answer n x ≡ Ok m → (ls : List PolicyLine) × (x ≡ Ok ls) × (m ≡ n + length ls)
unfolding part_answer
part_ok n m x e = grind arith

pub counted_whole : (form : ℕ) (part : Part) (room at : ℕ) (ws : List ℕ) (n : ℕ) → part_answer 0 (lines_from form part room at ws) ≡ Ok n → whole_lines part ws ≡ true
counted_whole form part room at ws n e = let p = part_ok 0 n _ e in are_whole form part room ws p.0 (lines_written form part room at ws p.0 p.1)

-- ---- rules and constraints as lines

pub rules_there : (form : ℕ) (ls : List PolicyLine) → list_all (in_part form Part.Rules) ls ≡ true → map rule (rules_in ls) ≡ ls
unfolding rules_in in_part
rules_there form [] k = refl
rules_there form (rule r ∷ ls) k = ap (λ (xs : List PolicyLine). rule r ∷ xs) (rules_there form ls (and_parts (allowed form (rule r)) (list_all (in_part form Part.Rules) ls) k).1)
rules_there form (constraint c ∷ ls) k = cc

pub constraints_there : (form : ℕ) (ls : List PolicyLine) → list_all (in_part form Part.Constraints) ls ≡ true → map constraint (constraints_in ls) ≡ ls
unfolding constraints_in in_part
constraints_there form [] k = refl
constraints_there form (rule r ∷ ls) k = cc
constraints_there form (constraint c ∷ ls) k = ap (λ (xs : List PolicyLine). constraint c ∷ xs) (constraints_there form ls k)

-- ---- what is taken

-- an image that is taken passed all checks, and both parts are lines
pub record TakenParts (bytes : List ℕ) (contents : Contents) : Type 0 where
  pub sized : well_sized (length bytes) ≡ true
  pub known : known_form (form_byte (words_of bytes)) ≡ true
  pub counted : counts_fit (words_of bytes) ≡ true
  pub summed : sums_to_zero (words_of bytes) ≡ true
  pub weighed : weights_right (words_of bytes) ≡ true
  pub rules : List PolicyLine
  pub constraints : List PolicyLine
  pub rules_whole : rule_lines (words_of bytes) ≡ Ok rules
  pub constraints_whole : constraint_lines (words_of bytes) ≡ Ok constraints
  pub same : contents ≡ record { form = form_byte (words_of bytes); parts = record { rules = rule_part (words_of bytes); constraints = constraint_part (words_of bytes) }; counts = record { rules = length rules; constraints = length constraints } }

checks_passed : (bytes : List ℕ) (contents : Contents) → load bytes ≡ Ok contents → (well_sized (length bytes) ≡ true) × (known_form (form_byte (words_of bytes)) ≡ true) × (counts_fit (words_of bytes) ≡ true) × (sums_to_zero (words_of bytes) ≡ true) × (weights_right (words_of bytes) ≡ true)
    × (body_answer (form_byte (words_of bytes)) (rule_part (words_of bytes)) (constraint_part (words_of bytes)) (rule_lines (words_of bytes)) (constraint_lines (words_of bytes)) ≡ Ok contents)
unfolding load load_words
checks_passed bytes contents e = grind arith

body_taken : (form : ℕ) (rules constraints : List ℕ) (x y : Result (List PolicyLine) ℕ) (contents : Contents) → body_answer form rules constraints x y ≡ Ok contents
    → (rs : List PolicyLine) × (cs : List PolicyLine) × (x ≡ Ok rs) × (y ≡ Ok cs) × (contents ≡ record { form = form; parts = record { rules = rules; constraints = constraints }; counts = record { rules = length rs; constraints = length cs } })
unfolding body_answer
body_taken form rules constraints x y contents e = grind arith

pub taken_parts : (bytes : List ℕ) (contents : Contents) → load bytes ≡ Ok contents → TakenParts bytes contents
taken_parts bytes contents e = grind (arith, checks_passed, body_taken)

-- counts that fit
pub record Counted (ws : List ℕ) : Type 0 where
  pub rules : rule_words ws ≤ rule_word_limit (form_byte ws)
  pub constraints : constraint_words ws ≤ constraint_word_limit (form_byte ws)
  pub all : length ws ≡ 1 + rule_words ws + constraint_words ws + check_count (form_byte ws)

pub counted : (ws : List ℕ) → counts_fit ws ≡ true → Counted ws
unfolding counts_fit
counted ws c = grind (arith, nat_tests)

-- the words of its parts are those of the lines of its policy
pub record HeldParts (bytes : List ℕ) (contents : Contents) : Type 0 where
  pub size : length (words_of bytes) ≡ 1 + rule_words (words_of bytes) + constraint_words (words_of bytes) + check_count (form_byte (words_of bytes))
  pub form_is : contents.form ≡ form_byte (words_of bytes)
  pub rules_are : contents.parts.rules ≡ rule_part (words_of bytes)
  pub constraints_are : contents.parts.constraints ≡ constraint_part (words_of bytes)
  pub rule_part_is : AreLines contents.form Part.Rules 128 contents.parts.rules (map rule (policy_in bytes).rules)
  pub constraint_part_is : AreLines contents.form Part.Constraints 64 contents.parts.constraints (map constraint (policy_in bytes).constraints)
  pub rule_count_is : contents.counts.rules ≡ length (map rule (policy_in bytes).rules)
  pub constraint_count_is : contents.counts.constraints ≡ length (map constraint (policy_in bytes).constraints)

pub held_parts : (bytes : List ℕ) (contents : Contents) → load bytes ≡ Ok contents → HeldParts bytes contents
unfolding part_lines policy_in lines_in
held_parts bytes contents taken =
    let t = taken_parts bytes contents taken in
    let ws : List ℕ = words_of bytes in
    let r = lines_written (form_byte ws) Part.Rules 128 1 (rule_part ws) t.rules t.rules_whole in
    let c = lines_written (form_byte ws) Part.Constraints 64 (1 + rule_words ws) (constraint_part ws) t.constraints t.constraints_whole in
    let rs : map rule (policy_in bytes).rules ≡ t.rules = rw t.rules_whole (rules_there (form_byte ws) t.rules r.kind) in
    let cs : map constraint (policy_in bytes).constraints ≡ t.constraints = rw t.constraints_whole (constraints_there (form_byte ws) t.constraints c.kind) in
    record {
      size = (counted ws t.counted).all;
      form_is = rw t.same;
      rules_are = rw t.same;
      constraints_are = rw t.same;
      rule_part_is = rw (t.same, rs) r;
      constraint_part_is = rw (t.same, cs) c;
      rule_count_is = rw (t.same, rs);
      constraint_count_is = rw (t.same, cs);
    }

-- its parts are short: the counts of their words are fields of 12 bits
pub taken_small : (bytes : List ℕ) (contents : Contents) → load bytes ≡ Ok contents → (length contents.parts.rules < 4096) × (length contents.parts.constraints < 4096)
unfolding between
taken_small bytes contents e =
    let h = held_parts bytes contents e in
    let ws : List ℕ = words_of bytes in (
      omega (arith, ap length h.rules_are, length-drop 1 (take (1 + rule_words ws) ws), length-take (1 + rule_words ws) ws),
      omega (arith, ap length h.constraints_are, length-drop (1 + rule_words ws) (take (1 + rule_words ws + constraint_words ws) ws), length-take (1 + rule_words ws + constraint_words ws) ws),
    )

-- ---- its lines, one after the other

-- those of a part are those of its policy
pub held_given : (bytes : List ℕ) (contents : Contents) → load bytes ≡ Ok contents → (part : Part) → lines_behind 0 (part_get contents.parts part) ≡ lines_held bytes part
held_given bytes contents taken Part.Rules =
    let h = held_parts bytes contents taken in ap (lines_behind 0) h.rule_part_is.words ∙ lines_given (map rule (policy_in bytes).rules) h.rule_part_is.sound
held_given bytes contents taken Part.Constraints =
    let h = held_parts bytes contents taken in ap (lines_behind 0) h.constraint_part_is.words ∙ lines_given (map constraint (policy_in bytes).constraints) h.constraint_part_is.sound
