-- What the code answers for the check words.
use Rattle.std.specs.Prelude.{ℕ, ◌%◌, if◌then◌else◌, List, Result, Ok, Err, ◌==◌}
use Rattle.policy.specs.Fault.{refusal}
use Rattle.policy.specs.declared.fault.Fault.{Fault}
use Rattle.policy.specs.declared.fault.Refusal.{Refusal}
use Rattle.word.specs.Word.{word_limit}
use Rattle.layout.specs.Layout.{sum, weighted_right}

-- of words of which the check words of a form stand from an index on
unfoldable pub sums_answer : ℕ → ℕ → List ℕ → Result (Unit {0}) Refusal
sums_answer form index ws =
    if sum ws % word_limit == 0 then (if weighted_right form index ws then Ok tt else Err (refusal Fault.ImageWeightedSum 0)) else Err (refusal Fault.ImageSum 0)
