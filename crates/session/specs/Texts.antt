-- What a run of the compiler on two texts leaves, by how it ends.
use Rattle.std.specs.Prelude.{◌≡◌, ℕ, List, take}
use Rattle.stream.specs.declared.failure.Failure.{Failure}
use Rattle.stream.specs.Event.{GoOn, Fails}
use Rattle.stream.specs.Inputs.{IsReadWhole, BothRead}
use Rattle.stream.specs.Machine.{Known, Reads, Sends}
use Rattle.session.specs.Listed.{listed_texts}
use Rattle.session.specs.declared.compiler.TextsFailure.{TextsFailure}
use Rattle.session.specs.declared.compiler.TextsFailure.TheVariants.{Maker, Site, Write}

-- their listing was written
abbrev pub ListsTexts : (maker maker' site site' old new : Known) → Type 0
ListsTexts maker maker' site site' old new = BothRead maker maker' site site' (λ first second. Sends (GoOn 0) old new (listed_texts first second))

-- where a text could not be read, nothing was written, nor the site's read where it was the maker's; after a failed write, a front of
-- the listing was written
abbrev pub TextsEndBy : TextsFailure → (maker maker' site site' old new : Known) → Type 0
TextsEndBy (Maker e) maker maker' site site' old new = ((bytes : List ℕ) × Reads (Fails (Failure.Read e)) maker maker' bytes) × (site' ≡ site) × (new ≡ old)
TextsEndBy (Site e) maker maker' site site' old new =
    ((first : List ℕ) × IsReadWhole maker maker' first) × ((bytes : List ℕ) × Reads (Fails (Failure.Read e)) site site' bytes) × (new ≡ old)
TextsEndBy (Write e) maker maker' site site' old new =
    BothRead maker maker' site site' (λ first second. (n : ℕ) × Sends (Fails (Failure.Write e)) old new (take n (listed_texts first second)))
