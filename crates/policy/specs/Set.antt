-- Sets of numbers below 64. A set is a number whose bit n says whether n is in it.
use Rattle.std.specs.Prelude.{ℕ, zero, suc, ◌+◌, ◌/◌, ◌%◌, ◌^◌, Bool, not, List, [], ◌∷◌, ◌++◌, map, fold, ◌==◌, nat_lt, if◌then◌else◌}
use Rattle.std.specs.Int.Bits.{bit_and, bit_or, bit_xor}
use Rattle.policy.specs.Number.{set_limit}
use Rattle.policy.specs.declared.number.Event.{Event}
use Rattle.policy.specs.declared.number.Action.{Action}
use Rattle.policy.specs.declared.number.Reading.{Reading}
use Rattle.policy.specs.declared.set.Events.{Events}
use Rattle.policy.specs.declared.set.Set.{Set}

unfoldable pub has : ℕ → ℕ → Bool
has s n = s / 2 ^ n % 2 == 1

-- a number past 63 is not taken in
unfoldable pub insert : ℕ → ℕ → ℕ
insert s n = if nat_lt n set_limit then bit_or s (2 ^ n) else s

-- the members of either
abbrev pub union : ℕ → ℕ → ℕ
union s t = bit_or s t

-- the members of s that are not in t
abbrev pub difference : ℕ → ℕ → ℕ
difference s t = bit_xor s (bit_and s t)

-- the members of s under n
unfoldable pub below : ℕ → ℕ → ℕ
below s n = s % 2 ^ n

-- how many members a set has, of those under n and of all
unfoldable pub set_size_below : ℕ → ℕ → ℕ
set_size_below s zero = 0
set_size_below s (suc n) = set_size_below s n + (if has s n then 1 else 0)

abbrev pub size : ℕ → ℕ
size s = set_size_below s set_limit

-- the members of s among the k numbers from n on, by rising number
unfoldable pub members_from : ℕ → ℕ → ℕ → List ℕ
members_from zero n s = []
members_from (suc k) n s = (if has s n then n ∷ [] else []) ++ members_from k (suc n) s

-- the set of these bits
abbrev pub set_of : {T : Type 0} → ℕ → Set T
set_of bits = record { bits = bits; of = record {} }

-- the numbers of all members, by rising number
abbrev pub members_of : {T : Type 0} → Set T → List ℕ
members_of s = members_from set_limit 0 s.bits

abbrev pub EventSet : Type 0
EventSet = Set Event

abbrev pub ActionSet : Type 0
ActionSet = Set Action

abbrev pub ReadingSet : Type 0
ReadingSet = Set Reading

-- ---- the same of events, of actions and of readings: each set takes only numbers of its own kind

abbrev pub no_events : EventSet
no_events = set_of 0

abbrev pub has_event : EventSet → Event → Bool
has_event s e = has s.bits e.0

abbrev pub insert_event : EventSet → Event → EventSet
insert_event s e = set_of (insert s.bits e.0)

abbrev pub union_events : EventSet → EventSet → EventSet
union_events s t = set_of (union s.bits t.bits)

-- some event is in both
abbrev pub meets : EventSet → EventSet → Bool
meets s t = not (bit_and s.bits t.bits == 0)

abbrev pub events_below : EventSet → Event → EventSet
events_below s e = set_of (below s.bits e.0)

-- which events the literals of a rule look at, where none of an epoch's events is left out
abbrev pub all_events : EventSet → Events
all_events s = record { present = s; occurred = s }

-- where only some of them are kept: a dropped event is neither present nor absent
abbrev pub keeping : EventSet → EventSet → Events
keeping occurred kept = record { present = kept; occurred = occurred }

abbrev pub no_actions : ActionSet
no_actions = set_of 0

abbrev pub has_action : ActionSet → Action → Bool
has_action s a = has s.bits a.0

abbrev pub insert_action : ActionSet → Action → ActionSet
insert_action s a = set_of (insert s.bits a.0)

abbrev pub union_actions : ActionSet → ActionSet → ActionSet
union_actions s t = set_of (union s.bits t.bits)

abbrev pub actions_without : ActionSet → ActionSet → ActionSet
actions_without s t = set_of (difference s.bits t.bits)

abbrev pub actions_below : ActionSet → Action → ActionSet
actions_below s a = set_of (below s.bits a.0)

-- the set of the actions with these numbers
abbrev pub actions_from : List ℕ → ActionSet
actions_from ns = fold insert_action no_actions (map (λ (n : ℕ). record { 0 = n }) ns)

abbrev pub no_readings : ReadingSet
no_readings = set_of 0

abbrev pub has_reading : ReadingSet → Reading → Bool
has_reading s r = has s.bits r.0

abbrev pub insert_reading : ReadingSet → Reading → ReadingSet
insert_reading s r = set_of (insert s.bits r.0)
