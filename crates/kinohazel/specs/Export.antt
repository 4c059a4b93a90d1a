-- The answers of the functions for C, as numbers: the fault's number and location, 0 where nothing is refused.
use Rattle.std.specs.Prelude.{ℕ, Result, Ok, Err}
use Rattle.policy.specs.Fault.{fault_number, source_number}
use Rattle.policy.specs.declared.fault.Refusal.{Refusal}
use Rattle.image.specs.Load.{Contents}
use Rattle.kinohazel.specs.declared.Compilation.{Compilation}
use Rattle.kinohazel.specs.declared.TextsCompilation.{TextsCompilation}
use Rattle.kinohazel.specs.declared.TextWritten.{TextWritten}
use Rattle.kinohazel.specs.declared.ImageCheck.{ImageCheck}

unfoldable pub compilation_of : Result ℕ Refusal → Compilation
compilation_of (Err r) = record { fault = fault_number r.fault; line = r.location; size = 0 }
compilation_of (Ok size) = record { fault = 0; line = 0; size = size }

-- with the text that the fault is in
unfoldable pub texts_compilation_of : Result ℕ Refusal → TextsCompilation
texts_compilation_of (Err r) = record { fault = fault_number r.fault; text = source_number r.source; line = r.location; size = 0 }
texts_compilation_of (Ok size) = record { fault = 0; text = 0; line = 0; size = size }

unfoldable pub text_written_of : Result ℕ Refusal → TextWritten
text_written_of (Err r) = record { fault = fault_number r.fault; word = r.location; size = 0 }
text_written_of (Ok size) = record { fault = 0; word = 0; size = size }

unfoldable pub check_of : Result Contents Refusal → ImageCheck
check_of (Err r) = record { fault = fault_number r.fault; word = r.location; rules = 0; constraints = 0 }
check_of (Ok contents) = record { fault = 0; word = 0; rules = contents.counts.rules; constraints = contents.counts.constraints }
