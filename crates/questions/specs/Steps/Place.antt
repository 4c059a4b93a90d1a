-- What is held of a first word.
use Rattle.std.specs.Prelude.{ℕ, List, take}
use Rattle.questions.specs.Steps.Held.{Open}
use Rattle.questions.specs.declared.line.Place.{Place}

abbrev pub open_at : Place → List ℕ → Open
open_at at held = record { names = at.names; name = take at.size held }
