-- Faults: the number of each, and of an answer the number and the location, which also says in which text it is.
use Rattle.std.specs.Prelude.{ℕ, Result}
use Rattle.std.specs.Result.{result_map_both}
use Rattle.policy.specs.declared.fault.Fault.{Fault}
use Rattle.policy.specs.declared.fault.Fault.TheVariants.{TooLong, Syntax, OutOfRange, TooManyParts, TooManyLines, Duplicate, ImageSize, ImageForm, ImageCount, ImageSum, ImageBody, EpochSyntax, EpochRange, DuplicateReading, BufferTooSmall, ImageWeightedSum, Unavoidable, ReservedEvent}
use Rattle.policy.specs.declared.fault.Refusal.{Refusal}
use Rattle.policy.specs.declared.fault.Source.{Source}

abbrev pub fault_number : Fault → ℕ
fault_number TooLong = 1
fault_number Syntax = 2
fault_number OutOfRange = 3
fault_number TooManyParts = 4
fault_number TooManyLines = 5
fault_number Duplicate = 6
fault_number ImageSize = 7
fault_number ImageForm = 8
fault_number ImageCount = 9
fault_number ImageSum = 10
fault_number ImageBody = 11
fault_number EpochSyntax = 12
fault_number EpochRange = 13
fault_number DuplicateReading = 14
fault_number BufferTooSmall = 15
fault_number ImageWeightedSum = 16
fault_number Unavoidable = 17
fault_number ReservedEvent = 18

-- which text: the maker's 1, the site's 2, and 0 where the fault is in neither alone
abbrev pub source_number : Source → ℕ
source_number Source.Neither = 0
source_number Source.Maker = 1
source_number Source.Site = 2

-- in neither text
abbrev pub refusal : Fault → ℕ → Refusal
refusal f at = record { fault = f; source = Source.Neither; location = at }

-- the same refusal, in one of the texts
abbrev pub within : Source → Refusal → Refusal
within s r = record { fault = r.fault; source = s; location = r.location }

module _ {A : Type 0} where
  -- the fault, if it is one, at a location
  abbrev pub located : ℕ → Result A Fault → Result A Refusal
  located at answer = result_map_both (λ x. x) (λ f. refusal f at) answer

  -- the refusal, if it is one, in one of the texts
  abbrev pub in_text : Source → Result A Refusal → Result A Refusal
  in_text source answer = result_map_both (λ x. x) (within source) answer
