-- Filling a lent buffer: an accepted call writes just its output, from the start. Where the output has more bytes than the buffer,
-- the call is refused (fault 15); a refusal leaves the buffer as it was.
use Rattle.std.specs.Prelude.{ℕ, List, ◌++◌, length, drop, Result, Ok, Err, nat_le, if◌then◌else◌}
use Rattle.policy.specs.Fault.{refusal}
use Rattle.policy.specs.declared.fault.Fault.{Fault}
use Rattle.policy.specs.declared.fault.Refusal.{Refusal}

-- what a call answers, a refusal or how many bytes were written, and what the buffer then holds
pub record Filled : Type 0 where
  pub answer : Result ℕ Refusal
  pub buffer : List ℕ

abbrev pub refuse : Refusal → List ℕ → Filled
refuse r buffer = record { answer = Err r; buffer = buffer }

abbrev pub deliver : List ℕ → List ℕ → Filled
deliver bytes buffer = record { answer = Ok (length bytes); buffer = bytes ++ drop (length bytes) buffer }

-- the bytes, if there is room for them
abbrev pub fill : List ℕ → List ℕ → Filled
fill bytes buffer = if nat_le (length bytes) (length buffer) then deliver bytes buffer else refuse (refusal Fault.BufferTooSmall 0) buffer
