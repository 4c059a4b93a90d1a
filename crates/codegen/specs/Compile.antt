-- What the compiler answers for every form, text, or two, and lent buffer, and what the buffer then holds: fault 8 where the form is
-- unknown, the faults 1 to 6, then 15, or the image of the text's policy in that form.
use Rattle.std.specs.Prelude.{ℕ, List, Result, Ok, Err, if◌then◌else◌}
use Rattle.policy.specs.Fault.{refusal}
use Rattle.policy.specs.Fill.{Filled, refuse, fill}
use Rattle.layout.specs.Layout.{known_form, image_of}
use Rattle.policy.specs.Policy.{Policy}
use Rattle.policy.specs.declared.fault.Fault.{Fault}
use Rattle.policy.specs.declared.fault.Refusal.{Refusal}
use Rattle.rule_text.specs.Text.{read_text, read_texts}

-- the form that the programs write
abbrev pub newest_form : ℕ
newest_form = 3

-- a form that is unknown is refused whatever was read
abbrev pub in_form : ℕ → Result Policy Refusal → Result Policy Refusal
in_form form read = if known_form form then read else Err (refusal Fault.ImageForm 0)

unfoldable pub output_of : ℕ → Result Policy Refusal → List ℕ → Filled
output_of form (Ok p) buffer = fill (image_of form p) buffer
output_of form (Err r) buffer = refuse r buffer

unfoldable pub compiled : ℕ → List ℕ → List ℕ → Filled
compiled form text buffer = output_of form (in_form form (read_text form text)) buffer

-- the same of the maker's and the site's text as one
unfoldable pub compiled_texts : ℕ → List ℕ → List ℕ → List ℕ → Filled
compiled_texts form maker site buffer = output_of form (in_form form (read_texts form maker site)) buffer
