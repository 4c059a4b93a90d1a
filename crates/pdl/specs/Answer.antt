-- What is told of an epoch line: whether it is refused, if it is under which number and at which place, which also says which of two
-- texts, and both sets.
use Rattle.std.specs.Prelude.{ℕ, Bool, true, false}
use Rattle.policy.specs.Fault.{fault_number, source_number}
use Rattle.policy.specs.Set.{ActionSet, no_actions}
use Rattle.policy.specs.declared.fault.Refusal.{Refusal}

pub record Answer : Type 0 where
  pub is_refused : Bool
  pub number : ℕ
  pub text : ℕ
  pub location : ℕ
  pub accepted : ActionSet
  pub cancelled : ActionSet

-- both sets are empty
abbrev pub refuses : Refusal → Answer
refuses r = record { is_refused = true; number = fault_number r.fault; text = source_number r.source; location = r.location; accepted = no_actions; cancelled = no_actions }

abbrev pub issues : ActionSet → ActionSet → Answer
issues accepted cancelled = record { is_refused = false; number = 0; text = 0; location = 0; accepted = accepted; cancelled = cancelled }
