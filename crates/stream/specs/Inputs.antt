-- What is known of inputs that were read to their ends.
use Rattle.std.specs.Prelude.{◌≡◌, List, [], ℕ}
use Rattle.std.specs.Io.KnownBytes.{IsAtEnd}
use Rattle.stream.specs.Event.{came, StopsAt, Fails}
use Rattle.stream.specs.Machine.{Known, Reads}
use Rattle.stream.specs.declared.failure.Failure.{Failure}
use Rattle.stream.specs.declared.whole.Unread.{Unread}
use Rattle.stream.specs.declared.whole.Unread.TheVariants.{First, Second}

-- these bytes are what was left of an input, and it was read to its end
abbrev pub IsReadWhole : (old new : Known) → List ℕ → Type 0
IsReadWhole old new bytes = Reads (StopsAt (came [])) old new bytes × IsAtEnd new.unread

-- two inputs were read to their ends, and of what they were something follows
abbrev pub BothRead : (first first' second second' : Known) → (List ℕ → List ℕ → Type 0) → Type 0
BothRead first first' second second' P =
    (xs : List ℕ) × (ys : List ℕ) × IsReadWhole first first' xs × IsReadWhole second second' ys × P xs ys

-- one of them could not be read: of the second nothing was, where it was the first
abbrev pub BothEndBy : Unread → (first first' second second' : Known) → Type 0
BothEndBy (First e) first first' second second' = ((bytes : List ℕ) × Reads (Fails (Failure.Read e)) first first' bytes) × (second' ≡ second)
BothEndBy (Second e) first first' second second' =
    ((xs : List ℕ) × IsReadWhole first first' xs) × ((bytes : List ℕ) × Reads (Fails (Failure.Read e)) second second' bytes)
