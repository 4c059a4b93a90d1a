-- The alphabets: events E0 to E63, actions A0 to A63, readings R0 to R15.
use Rattle.std.specs.Prelude.{ℕ, Option, Some, None, nat_lt, if◌then◌else◌}
use Rattle.policy.specs.declared.number.Event.{Event}
use Rattle.policy.specs.declared.number.Action.{Action}
use Rattle.policy.specs.declared.number.Reading.{Reading}

-- how many events, and how many actions, there are: also how many members a set may have
abbrev pub set_limit : ℕ
set_limit = 64

abbrev pub reading_limit : ℕ
reading_limit = 16

-- the event with a number; none past the last
abbrev pub check_event : ℕ → Option Event
check_event n = if nat_lt n set_limit then Some (record { 0 = n }) else None

abbrev pub check_action : ℕ → Option Action
check_action n = if nat_lt n set_limit then Some (record { 0 = n }) else None

abbrev pub check_reading : ℕ → Option Reading
check_reading n = if nat_lt n reading_limit then Some (record { 0 = n }) else None
