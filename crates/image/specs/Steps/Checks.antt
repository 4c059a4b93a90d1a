-- What the code answers for word 0 and the check words.
use Rattle.std.specs.Prelude.{ℕ, ◌+◌, ◌&&◌, if◌then◌else◌, List, length, nat_le, Result, Err, ◌==◌}
use Rattle.policy.specs.Fault.{refusal}
use Rattle.policy.specs.declared.fault.Fault.{Fault}
use Rattle.policy.specs.declared.fault.Refusal.{Refusal}
use Rattle.layout.specs.Layout.{known_form, check_count, rule_word_limit, constraint_word_limit}
use Rattle.layout.specs.Steps.Sums.{sums_answer}

-- of words whose word 0 tells a known form and how many words each part has
unfoldable pub whole_answer : ℕ → ℕ → ℕ → List ℕ → Result (Unit {0}) Refusal
whole_answer form rules constraints ws =
    if nat_le rules (rule_word_limit form) && nat_le constraints (constraint_word_limit form) && length ws == 1 + rules + constraints + check_count form
    then sums_answer form (1 + rules + constraints) ws
    else Err (refusal Fault.ImageCount 0)

-- the same of any form
unfoldable pub checks_answer : ℕ → ℕ → ℕ → List ℕ → Result (Unit {0}) Refusal
checks_answer form rules constraints ws = if known_form form then whole_answer form rules constraints ws else Err (refusal Fault.ImageForm 0)
