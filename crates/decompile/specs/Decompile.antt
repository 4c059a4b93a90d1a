-- What the decompiler answers for every image and lent buffer, and what the buffer then holds: the loader's faults 7 to 11, then
-- 15, or the text of the policy that the image holds.
use Rattle.policy.specs.declared.fault.Refusal.{Refusal}
use Rattle.std.specs.Prelude.{ℕ, List, Result, Ok, Err}
use Rattle.policy.specs.Fill.{Filled, refuse, fill}
use Rattle.image.specs.Held.{policy_in}
use Rattle.image.specs.Load.{load, Contents}
use Rattle.printer.specs.Printed.{text_of}

-- the loader's answer, and the text of what the image holds where it takes it
unfoldable pub output_of : Result Contents Refusal → List ℕ → List ℕ → Filled
output_of (Err r) text buffer = refuse r buffer
output_of (Ok contents) text buffer = fill text buffer

unfoldable pub decompiled : List ℕ → List ℕ → Filled
decompiled image buffer = output_of (load image) (text_of (policy_in image)) buffer
