-- The loader's answer, fault by fault, as the code goes through them.
use Rattle.std.proofs.Common.{ℕ, ◌+◌, ◌≤◌, ◌<◌, true, false, List, ◌≡◌, arith, length, Result, Ok, Err}
use Rattle.std.proofs.lemmas.Bool.Decides.{nat_tests}
use Rattle.policy.specs.Fault.{refusal}
use Rattle.policy.specs.declared.fault.Fault.{Fault}
use Rattle.word.specs.Word.{words_of}
use Rattle.image.specs.Check.{rule_words, constraint_words, form_byte, well_sized, counts_fit, sums_to_zero, weights_right}
use Rattle.layout.specs.Layout.{check_count, size_limit}
use Rattle.image.specs.Lines.{rule_part, constraint_part, rule_lines, constraint_lines}
use Rattle.image.specs.Load.{Contents, body_answer, load_words, load}
use Rattle.image.specs.Steps.Checks.{checks_answer, whole_answer}
use Rattle.layout.specs.Steps.Sums.{sums_answer}
use Rattle.policy.specs.declared.fault.Refusal.{Refusal}

-- ---- sizes

pub size_large : (n : ℕ) → 8 ≤ n → size_limit < n → false ≡ well_sized n
unfolding well_sized
size_large n h l = grind (arith, nat_tests)

-- ---- counts

-- what passes has as many words as word 0 tells
pub checks_count : (form rules constraints : ℕ) (ws : List ℕ) → checks_answer form rules constraints ws ≡ Ok (tt {0}) → (1 + rules + constraints ≤ length ws) × (length ws < 4096)
unfolding checks_answer whole_answer check_count
checks_count form rules constraints ws e = grind (arith, nat_tests)

-- ---- fault by fault

abbrev unless_refused : Result (Unit {0}) Refusal → Result Contents Refusal → Result Contents Refusal
unless_refused (Ok t) next = next
unless_refused (Err r) next = Err r

module _ (bytes : List ℕ) where
  pub load_size : well_sized (length bytes) ≡ false → Err (refusal Fault.ImageSize 0) ≡ load bytes
  unfolding load
  load_size e = rw e

  -- of what word 0 tells: the faults of word 0 and of the check words, and then what both parts answer
  pub load_checked : well_sized (length bytes) ≡ true → load bytes ≡ unless_refused (checks_answer (form_byte (words_of bytes)) (rule_words (words_of bytes)) (constraint_words (words_of bytes)) (words_of bytes))
      (body_answer (form_byte (words_of bytes)) (rule_part (words_of bytes)) (constraint_part (words_of bytes)) (rule_lines (words_of bytes)) (constraint_lines (words_of bytes)))
  unfolding load load_words checks_answer whole_answer sums_answer counts_fit sums_to_zero weights_right
  load_checked sized = rw sized (grind arith)
