-- The texts of the lines of an image: those of its rules, and then those of its constraints.
use Rattle.std.specs.Prelude.{ℕ, List, [], ◌∷◌, ◌++◌}
use Rattle.policy.specs.Line.{PolicyLine, part_get}
use Rattle.policy.specs.declared.line.Part.{Part}
use Rattle.image.specs.Load.{Contents}
use Rattle.image.specs.Walk.{lines_behind}
use Rattle.printer.specs.Steps.Value.{value_text}

unfoldable pub text_of_values : List PolicyLine → List ℕ
text_of_values [] = []
text_of_values (l ∷ ls) = value_text l ++ text_of_values ls

-- those of the lines of some parts
unfoldable pub parts_text : Contents → List Part → List ℕ
parts_text contents [] = []
parts_text contents (part ∷ parts) = text_of_values (lines_behind 0 (part_get contents.parts part)) ++ parts_text contents parts

abbrev pub text_in : Contents → List ℕ
text_in contents = parts_text contents (Part.Rules ∷ Part.Constraints ∷ [])
