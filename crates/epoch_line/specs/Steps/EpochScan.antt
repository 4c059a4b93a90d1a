-- What stands in front of an epoch line, and what was collected before it.
use Rattle.std.specs.Str.{byte}
use Rattle.std.specs.Prelude.{ℕ, Bool, true, ◌||◌, ℤ, List, [], ◌∷◌, Some, None, option_map, fold, Result, Ok, Err, Option, ◌==◌, nat_eq, nat_lt, if◌then◌else◌}
use Rattle.policy.specs.declared.epoch.Epoch.{Epoch}
use Rattle.std.specs.List.{list_any}
use Rattle.policy.specs.Number.{set_limit, reading_limit}
use Rattle.policy.specs.Set.{EventSet, ReadingSet, has_reading}
use Rattle.policy.specs.Fault.{refusal}
use Rattle.policy.specs.declared.fault.Fault.{Fault}
use Rattle.policy.specs.declared.fault.Refusal.{Refusal}
use Rattle.lexer.specs.Steps.Scan.{tokens_in}
use Rattle.lexer.specs.Token.{Token}
use Rattle.token.specs.Steps.PartIn.{part_in, constant_in}
use Rattle.epoch_line.specs.Epoch.{Item, event, value, at_equals, assignment_of, item_of, items_of, item_in_range, add_item}
use Rattle.epoch_line.specs.declared.Entry.{Entry}

-- ---- the token in front: the item that it is, none where a number of it is out of range, and what stands behind it

abbrev pub Found : Type 0
Found = Option (Option Item × List ℕ)

unfoldable pub found : Entry → Found
found (Entry.Event e rest) = Some (Some (event e.0), rest.now)
found (Entry.Value r k rest) = Some (Some (value r.0 k), rest.now)
found (Entry.OutOfRange rest) = Some (None, rest.now)
found Entry.Malformed = None

abbrev pub event_with : ℕ → Option Item
event_with n = if nat_lt n set_limit then Some (event n) else None

abbrev pub value_with : ℕ → Option ℤ → Option Item
value_with n None = None
value_with n (Some k) = if nat_lt n reading_limit then Some (value n k) else None

-- `=` and a constant, behind the number of a reading
abbrev pub assigned_in : ℕ → List ℕ → Found
assigned_in n [] = None
assigned_in n (b ∷ s) = if b == byte "=" then option_map (λ (r : Option ℤ × List ℕ). (value_with n r.0, r.1)) (constant_in s) else None

unfoldable pub value_in : List ℕ → Found
value_in line = part_in item_in_range (λ (t : Token). assignment_of (at_equals t)) line

unfoldable pub item_in : List ℕ → Found
item_in line = part_in item_in_range item_of line

-- ---- the line as it is scanned: what was collected, and whether a number was out of range or a reading given twice

pub record Scanned : Type 0 where
  pub out_of_range : Bool
  pub twice : Bool
  pub epoch : Epoch

abbrev pub scanned : Bool → Bool → EventSet → ReadingSet → List ℤ → Scanned
scanned out_of_range twice events given values =
    record { out_of_range = out_of_range; twice = twice; epoch = record { events = events; readings = record { given = given; values = values } } }

-- one item more, which is in range
unfoldable pub add_scanned : Scanned → Item → Scanned
add_scanned s (event n) = record { out_of_range = s.out_of_range; twice = s.twice; epoch = add_item s.epoch (event n) }
add_scanned s (value n k) =
    record { out_of_range = s.out_of_range; twice = s.twice || has_reading s.epoch.readings.given (record { 0 = n }); epoch = add_item s.epoch (value n k) }

abbrev pub flagged : Scanned → Scanned
flagged s = record { out_of_range = true; twice = s.twice; epoch = s.epoch }

unfoldable pub take_item : Scanned → Item → Scanned
take_item s i = if item_in_range i then add_scanned s i else flagged s

unfoldable pub finish_read : Scanned → Result Epoch Refusal
finish_read s =
    if s.out_of_range then Err (refusal Fault.EpochRange 0)
    else (if s.twice then Err (refusal Fault.DuplicateReading 0) else Ok s.epoch)

unfoldable pub items_read : Scanned → Option (List Item) → Result Epoch Refusal
items_read s None = Err (refusal Fault.EpochSyntax 0)
items_read s (Some is) = finish_read (fold take_item s is)

-- the answer, after what was collected before the rest of a line
unfoldable pub epoch_from : Scanned → List ℕ → Result Epoch Refusal
epoch_from s rest = if list_any (nat_eq 10) rest then Err (refusal Fault.EpochSyntax 0) else items_read s (items_of (tokens_in rest))
