-- What it says that steps which may fail came to an answer.
use Rattle.std.proofs.Common.{arith, Some, Result, Ok, Err, ◌⊎◌, ◌≡◌}
use Rattle.std.specs.Result.{result_ok}
use Rattle.policy.specs.Fault.{within, in_text}
use Rattle.policy.specs.Result.{result_and_then}
use Rattle.policy.specs.declared.fault.Refusal.{Refusal}
use Rattle.policy.specs.declared.fault.Source.{Source}

module _ {A B E : Type 0} (next : A → Result B E) where
  pub and_then_ok : (r : Result A E) (y : B) → result_and_then next r ≡ Ok y → (x : A) × (r ≡ Ok x) × (next x ≡ Ok y)
  and_then_ok r y h = grind arith

  pub and_then_err : (r : Result A E) (f : E) → result_and_then next r ≡ Err f → (r ≡ Err f) ⊎ ((x : A) × (r ≡ Ok x) × (next x ≡ Err f))
  and_then_err r f h = grind arith

module _ {A : Type 0} where
  pub in_text_ok : (source : Source) (r : Result A Refusal) (x : A) → in_text source r ≡ Ok x → r ≡ Ok x
  in_text_ok source r x h = grind arith

  pub in_text_err : (source : Source) (r : Result A Refusal) (x : Refusal) → in_text source r ≡ Err x → (y : Refusal) × (r ≡ Err y) × (within source y ≡ x)
  in_text_err source r x h = grind arith

-- the value, where it is known
pub known : {A E : Type 0} (r : Result A E) (x : A) → result_ok r ≡ Some x → r ≡ Ok x
known r x h = grind arith
