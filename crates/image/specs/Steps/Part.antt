-- What the code answers for the lines of a part.
use Rattle.policy.specs.Line.{PolicyLine}
use Rattle.std.specs.Prelude.{ℕ, ◌+◌, List, Result, Ok, Err, length}
use Rattle.policy.specs.Fault.{refusal}
use Rattle.policy.specs.declared.fault.Fault.{Fault}
use Rattle.policy.specs.declared.fault.Refusal.{Refusal}

-- how many lines a part has, counted from a number on, or the refusal where none fits
unfoldable pub part_answer : ℕ → Result (List PolicyLine) ℕ → Result ℕ Refusal
part_answer n (Ok ls) = Ok (n + length ls)
part_answer n (Err at) = Err (refusal Fault.ImageBody at)
