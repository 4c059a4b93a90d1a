-- The lines of a taken image have the texts of its policy's lines.
use Rattle.std.proofs.Common.{ℕ, ◌≤◌, true, List, [], ◌∷◌, ◌++◌, map, append_assoc, ◌≡◌, refl, sym, ap, ap₂, arith, length, drop, append-nil, Ok}
use Rattle.std.proofs.Math.ListN.{length-map}
use Rattle.policy.specs.Limits.{Acceptable, valid}
use Rattle.policy.specs.Line.{PolicyLine, rule, constraint}
use Rattle.std.specs.List.{list_all}
use Rattle.exactness.proofs.PartLines.{rules_allowed}
use Rattle.image.proofs.HeldLaws.{held_parts, held_given}
use Rattle.image.specs.Held.{policy_in}
use Rattle.image.specs.Load.{Contents, load}
use Rattle.image.specs.Walk.{lines_ahead, lines_behind, IsAtFirstLine}
use Rattle.image.specs.declared.walker.Walker.{Walker}
use Rattle.policy.specs.declared.line.Part.{Part}
use Rattle.printer.proofs.Printing.{lines_append, text_length}
use Rattle.printer.proofs.ValueLaws.{value_text_is}
use Rattle.printer.specs.Printed.{longest_text, lines_text, text_of}
use Rattle.decompile.specs.Steps.Walk.{text_of_values, parts_text, text_in}

-- ---- lines

values_text : (ls : List PolicyLine) → list_all valid ls ≡ true → text_of_values ls ≡ lines_text ls
unfolding text_of_values lines_text
values_text [] h = refl
values_text (l ∷ ls) h = grind (arith, value_text_is l, values_text ls, append_assoc)

pub first_lines : (ws : List ℕ) (walker : Walker) → IsAtFirstLine ws walker → lines_ahead walker ≡ lines_behind 0 ws
first_lines ws walker first = ap₂ (λ (xs : List ℕ) (at : ℕ). lines_behind 0 (drop at xs)) first.words first.start

-- ---- an image that is taken

-- its lines have the text of the policy, which is acceptable for its form
pub record TakenText (bytes : List ℕ) (contents : Contents) : Type 0 where
  pub taken : load bytes ≡ Ok contents
  pub text : text_in contents ≡ text_of (policy_in bytes)
  pub acceptable : Acceptable contents.form (policy_in bytes)
  pub short : length (text_in contents) ≤ longest_text

pub taken_text : (bytes : List ℕ) (contents : Contents) → Ok contents ≡ load bytes → TakenText bytes contents
unfolding text_of parts_text
taken_text bytes contents e =
    let h = held_parts bytes contents (sym e) in
    let given = held_given bytes contents (sym e) in
    let rs : List PolicyLine = map rule (policy_in bytes).rules in
    let cs : List PolicyLine = map constraint (policy_in bytes).constraints in
    let text : text_in contents ≡ lines_text (rs ++ cs) =
    grind (arith, given Part.Rules, given Part.Constraints, values_text rs h.rule_part_is.sound, values_text cs h.constraint_part_is.sound, append-nil, lines_append rs cs) in
    let acceptable : Acceptable contents.form (policy_in bytes) =
    grind (arith, h, rules_allowed contents.form (policy_in bytes).rules h.rule_part_is.kind, length-map (policy_in bytes).rules rule, length-map (policy_in bytes).constraints constraint) in
    record { taken = sym e; text = text; acceptable = acceptable; short = omega (arith, ap length text, text_length contents.form (policy_in bytes) acceptable) }
