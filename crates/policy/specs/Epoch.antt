-- An epoch: the events that occur in it, and the readings that it gives.
use Rattle.std.specs.Prelude.{◌^◌, ◌<◌, slice_get, ◌⊎◌, ◌≡◌, ℤ, Option, None, if◌then◌else◌}
use Rattle.policy.specs.Number.{set_limit}
use Rattle.policy.specs.Set.{has_reading}
use Rattle.policy.specs.declared.number.Reading.{Reading}
use Rattle.policy.specs.declared.epoch.ReadingView.{ReadingView}
use Rattle.policy.specs.declared.epoch.Readings.{Readings}
use Rattle.policy.specs.declared.epoch.Epoch.{Epoch}

-- its events are E0 to E63
abbrev pub InAlphabet : Epoch → Type 0
InAlphabet e = e.events.bits < 2 ^ set_limit

-- a reading that the epoch does not give has no value
unfoldable pub reading_value : Readings → Reading → Option ℤ
reading_value rs r = if has_reading rs.given r then slice_get rs.values r.0 else None

-- each reading that the first has, the second has with the same value
abbrev pub SomeOf : Readings → Readings → Type 0
SomeOf fewer all = (r : Reading) → (reading_value fewer r ≡ None) ⊎ (reading_value fewer r ≡ reading_value all r)

-- what a view of readings shows
abbrev pub viewed : ReadingView → Readings
viewed v = record { given = v.given; values = v.values.now }
