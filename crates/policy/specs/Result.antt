-- Steps that may fail, one behind another.
use Rattle.std.specs.Prelude.{Result, Ok, Err}

module _ {A B E : Type 0} where
  -- the first error, or else what the next step makes of the value
  abbrev pub result_and_then : (A → Result B E) → Result A E → Result B E
  result_and_then next (Ok x) = next x
  result_and_then next (Err e) = Err e
