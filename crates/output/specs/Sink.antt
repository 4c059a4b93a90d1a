-- Sinks: they take bytes one after another.
use Rattle.std.specs.Prelude.{ℕ, ◌+◌, ◌-◌, ◌^◌, min, max, List, [], ◌∷◌, ◌++◌, ◌≡◌, refl, length, set}
use Rattle.output.specs.declared.counter.Counter.{Counter}
use Rattle.output.specs.declared.page.Page.{Page}

module _ {S : Type 0} (taken : S → ℕ → S) where
  -- what a sink is after these bytes, where it is `taken sink b` after one byte b
  unfoldable pub fed : S → List ℕ → S
  fed sink [] = sink
  fed sink (b ∷ bs) = fed (taken sink b) bs

  pub fed-none : (sink : S) → fed sink [] ≡ sink
  unfolding fed
  fed-none sink = refl

  pub fed-join : (sink : S) (first second : List ℕ) → fed (fed sink first) second ≡ fed sink (first ++ second)
  unfolding fed
  fed-join sink [] second = refl
  fed-join sink (b ∷ bs) second = fed-join (taken sink b) bs second

-- a number moved on by so many, up to a limit; one past the limit stays
abbrev pub advanced : ℕ → ℕ → ℕ → ℕ
advanced from by limit = max from (min (from + by) limit)

-- a counter after one more byte
abbrev pub counted : Counter → ℕ → Counter
counted counter byte = record { count = advanced counter.count 1 (2 ^ 64 - 1) }

-- a page after one more byte, which is dropped where there is no room
abbrev pub stored : Page → ℕ → Page
stored page byte =
    record page { bytes = record page.bytes { now = set page.bytes.now page.end byte }; end = advanced page.end 1 (length page.bytes.now) }
