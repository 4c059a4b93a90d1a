-- The answer of an explanation, as numbers: the fault's number, its text and its location, 0 where nothing is refused; what became of the
-- action; and where what is shown stands, 0 where nothing is shown.
use Rattle.std.specs.Prelude.{ℕ, length, Result, Ok, Err}
use Rattle.policy.specs.Fault.{fault_number, source_number}
use Rattle.policy.specs.declared.fault.Refusal.{Refusal}
use Rattle.explanation.specs.Part.{Stretch, Quote, of_maker, of_site}
use Rattle.explanation.specs.Why.{Explanation, not_proposed, accepted_by, cancelled_by}
use Rattle.kinohazel_tools.specs.declared.ActionExplanation.{ActionExplanation}

abbrev pub from_text : ℕ → ℕ → Stretch → ActionExplanation
from_text outcome text x = record { fault = 0; text = 0; line = 0; outcome = outcome; part_text = text; part_start = x.start; part_length = length x.bytes }

-- 1 is the maker's text, 2 the site's
abbrev pub quoting : ℕ → Quote → ActionExplanation
quoting outcome (of_maker x) = from_text outcome 1 x
quoting outcome (of_site x) = from_text outcome 2 x

-- 0 is no outcome, which a refusal has
unfoldable pub explanation_of : Result Explanation Refusal → ActionExplanation
explanation_of (Err r) =
    record { fault = fault_number r.fault; text = source_number r.source; line = r.location; outcome = 0; part_text = 0; part_start = 0; part_length = 0 }
explanation_of (Ok not_proposed) = record { fault = 0; text = 0; line = 0; outcome = 1; part_text = 0; part_start = 0; part_length = 0 }
explanation_of (Ok (accepted_by x)) = quoting 2 x
explanation_of (Ok (cancelled_by x)) = quoting 3 x
