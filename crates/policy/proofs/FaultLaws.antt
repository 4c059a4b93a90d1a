-- Each fault has a number of its own.
use Rattle.std.proofs.Common.{◌<◌, List, [], ◌∷◌, length, ◌≡◌, arith}
use Rattle.policy.specs.Fault.{fault_number}
use Rattle.policy.specs.declared.fault.Fault.{Fault}
use Rattle.policy.specs.declared.fault.Fault.TheVariants.{TooLong, Syntax, OutOfRange, TooManyParts, TooManyLines, Duplicate, ImageSize, ImageForm, ImageCount, ImageSum, ImageBody, EpochSyntax, EpochRange, DuplicateReading, BufferTooSmall, ImageWeightedSum, Unavoidable, ReservedEvent}

-- the faults by their numbers; no fault has number 0
abbrev pub by_number : List Fault
by_number =
    TooLong ∷ TooLong ∷ Syntax ∷ OutOfRange ∷ TooManyParts ∷ TooManyLines ∷ Duplicate ∷ ImageSize ∷ ImageForm ∷ ImageCount ∷ ImageSum ∷ ImageBody
    ∷ EpochSyntax ∷ EpochRange ∷ DuplicateReading ∷ BufferTooSmall ∷ ImageWeightedSum ∷ Unavoidable ∷ ReservedEvent ∷ []

pub fault_number_distinct : (f g : Fault) → fault_number f ≡ fault_number g → f ≡ g
fault_number_distinct f g h = grind arith

-- it is not 0, by which an answer without a fault is told
pub fault_number_positive : (f : Fault) → fault_number f ≡ 0 → ⊥
fault_number_positive f h = grind arith

-- and each is under how many there are by number
pub fault_number_small : (f : Fault) → fault_number f < length by_number
fault_number_small f = grind arith
