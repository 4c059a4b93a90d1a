-- The events that the items of an epoch line name.
use Rattle.std.specs.Prelude.{ℕ, List, [], ◌∷◌}
use Rattle.epoch_line.specs.Epoch.{Item, event, value}

unfoldable pub named_by : List Item → List ℕ
named_by [] = []
named_by (event n ∷ is) = n ∷ named_by is
named_by (value n k ∷ is) = named_by is
