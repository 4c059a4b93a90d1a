-- No printed line has more than 512 bytes.
use Rattle.policy.specs.declared.fault.Refusal.{Refusal}
use Rattle.std.proofs.Common.{◌≡◌, ℕ, zero, suc, ◌+◌, ◌*◌, ◌<◌, ◌≤◌, false, ◌&&◌, List, length, arith, length-append, Result, Ok, Err}
use Rattle.policy.specs.Set.{EventSet, has, members_from}
use Rattle.policy.specs.declared.mode.Mode.{Mode}
use Rattle.policy.proofs.SetLaws.{has_difference, has_empty}
use Rattle.lexer.specs.Byte.{bytes}
use Rattle.monitor.proofs.FewLaws.{visited_few}
use Rattle.monitor.specs.Decision.{yielded_by, reduced_by, reduction_by, decided_by, on_image, decision_in, answer_of, visited_in}
use Rattle.monitor.specs.declared.decision.Actions.{Actions}
use Rattle.output.proofs.DecimalLaws.{decimal_few, decimal_short}
use Rattle.report.proofs.LengthLaws.{fault_digits}
use Rattle.report.specs.Report.{action_name, further_names, action_names, words_field, accept_line, refused_line}
use Rattle.session.specs.Printed.{decision_line}

-- ---- actions: no number is in both lists

abbrev Apart : ℕ → ℕ → Type 0
Apart s t = (n : ℕ) → (has s n && has t n) ≡ false

members_short : (k n s t : ℕ) → n + k ≤ 64 → Apart s t
    → length (further_names (members_from k n s)) + length (further_names (members_from k n t)) ≤ 4 * k
unfolding members_from further_names action_name
members_short zero n s t h a = omega arith
members_short (suc k) n s t h a = grind (arith, a n, members_short k (suc n) s t (omega arith) a, decimal_few n 1 (omega arith), length-append)

names_short : (ns : List ℕ) → length (action_names ns) ≤ 1 + length (further_names ns)
unfolding action_names further_names
names_short ns = grind (arith, length-append)

abbrev ApartIn : Result Actions Refusal → Type 0
ApartIn d = Apart (answer_of d).accepted.bits (answer_of d).cancelled.bits

decision_apart : (mode : Mode) (image : List ℕ) (pending : EventSet) (line : List ℕ) → ApartIn (decision_in mode image pending line)
unfolding decision_in on_image decided_by yielded_by reduction_by reduced_by
decision_apart mode image pending line n = grind (arith, has_empty, has_difference)

-- ---- lines

line_short : (n : ℕ) (d : Result Actions Refusal) → n < 18446744073709551616 → ApartIn d → visited_in d < 18446744073709551616
    → length (decision_line n d) ≤ 512
unfolding decision_line accept_line refused_line words_field bytes
line_short n (Err x) h a v = grind (arith, length-append, decimal_short, fault_digits)
line_short n (Ok actions) h a v = grind (arith, members_short, length-append, decimal_short, names_short)

pub decision_short : (n : ℕ) (mode : Mode) (image : List ℕ) (pending : EventSet) (line : List ℕ) → n < 18446744073709551616 → length (decision_line n (decision_in mode image pending line)) ≤ 512
decision_short n mode image pending line h = line_short n (decision_in mode image pending line) h (decision_apart mode image pending line) (omega (arith, visited_few mode image pending line))
