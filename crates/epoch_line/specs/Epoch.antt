-- The epoch line: its tokens `E5` and `R0=41`, what it is refused for (1, 12, 13, 14, each over the whole
-- line), and the epoch that an accepted one has.
use Rattle.std.specs.Str.{byte}
use Rattle.std.specs.Prelude.{ℕ, Bool, not, ◌&&◌, ℤ, pos, length, set, replicate, List, [], ◌∷◌, fold, if◌then◌else◌, Result, Ok, Err, Option, Some, None, option_map, option_and_then, ◌==◌, nat_eq, nat_lt}
use Rattle.std.specs.Option.{option_or}
use Rattle.policy.specs.declared.epoch.Epoch.{Epoch}
use Rattle.policy.specs.Limits.{is_reading_value, repeats}
use Rattle.std.specs.List.{list_all, list_any}
use Rattle.policy.specs.Number.{set_limit, reading_limit}
use Rattle.policy.specs.Set.{no_events, insert_event, no_readings, insert_reading}
use Rattle.policy.specs.Fault.{refusal}
use Rattle.policy.specs.declared.fault.Fault.{Fault}
use Rattle.policy.specs.declared.fault.Refusal.{Refusal}
use Rattle.lexer.specs.Token.{Token, named, both}
use Rattle.lexer.specs.Lines.{tokens_of}
use Rattle.lexer.specs.Number.{constant_of}

pub data Item : Type 0 where
  event : ℕ → Item
  value : ℕ → ℤ → Item

-- the bytes before the first `=` and those behind it
pub record Halves : Type 0 where
  pub left : List ℕ
  pub right : List ℕ

abbrev pub with_left : ℕ → Halves → Halves
with_left b h = record { left = b ∷ h.left; right = h.right }

unfoldable pub at_equals : List ℕ → Option Halves
at_equals [] = None
at_equals (b ∷ bs) = if b == byte "=" then Some (record { left = []; right = bs }) else option_map (with_left b) (at_equals bs)

unfoldable pub assignment_of : Option Halves → Option Item
assignment_of o = option_and_then (λ (h : Halves). both value (named (byte "R") h.left) (constant_of h.right)) o

unfoldable pub item_of : Token → Option Item
item_of t = option_or (option_map event (named (byte "E") t)) (assignment_of (at_equals t))

unfoldable pub items_of : List Token → Option (List Item)
items_of [] = Some []
items_of (t ∷ ts) = both ◌∷◌ (item_of t) (items_of ts)

unfoldable pub item_in_range : Item → Bool
item_in_range (event n) = nat_lt n set_limit
item_in_range (value n k) = nat_lt n reading_limit && is_reading_value k

-- the readings that are given
unfoldable pub given_by : List Item → List ℕ
given_by [] = []
given_by (event n ∷ is) = given_by is
given_by (value n k ∷ is) = n ∷ given_by is

unfoldable pub add_item : Epoch → Item → Epoch
add_item e (event n) = record { events = insert_event e.events (record { 0 = n }); readings = e.readings }
add_item e (value n k) =
    record {
      events = e.events;
      readings = record { given = insert_reading e.readings.given (record { 0 = n }); values = set e.readings.values n k };
    }

-- a blank line: no event, and no reading is given; what stands in the places of the readings are no values
abbrev pub empty_epoch : Epoch
empty_epoch = record { events = no_events; readings = record { given = no_readings; values = replicate reading_limit (pos 0) } }

-- the faults of a line in their order: 12, 13, 14, at no line
unfoldable pub judge_epoch : Option (List Item) → Result Epoch Refusal
judge_epoch None = Err (refusal Fault.EpochSyntax 0)
judge_epoch (Some is) =
    if not (list_all item_in_range is) then Err (refusal Fault.EpochRange 0)
    else (if repeats (given_by is) then Err (refusal Fault.DuplicateReading 0) else Ok (fold add_item empty_epoch is))

abbrev pub epoch_limit : ℕ
epoch_limit = 1024

-- a byte 10 inside the line is a wrong shape (12)
unfoldable pub read_epoch : List ℕ → Result Epoch Refusal
read_epoch line =
    if nat_lt epoch_limit (length line) then Err (refusal Fault.TooLong 0)
    else (if list_any (nat_eq 10) line then Err (refusal Fault.EpochSyntax 0) else judge_epoch (items_of (tokens_of line)))
