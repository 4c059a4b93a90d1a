-- The lines that words of an image begin with, and words that are lines from end to end.
use Rattle.std.specs.Prelude.{ℕ, ◌≤◌, Bool, true, false, List, ◌++◌, ◌≡◌, length, drop}
use Rattle.policy.specs.Limits.{allowed, valid}
use Rattle.policy.specs.Line.{PolicyLine, rule, constraint}
use Rattle.std.specs.List.{list_all}
use Rattle.policy.specs.declared.line.Part.{Part}
use Rattle.layout.specs.Layout.{line_words, lines_words}

-- of an image of a form: rules that texts for the form may have stand in the first part, constraints in the second
unfoldable pub in_part : (form : ℕ) → Part → PolicyLine → Bool
in_part form Part.Rules (rule r) = allowed form (rule r)
in_part form Part.Constraints (constraint c) = true
in_part form _ _ = false

-- a whole line of the part, that an accepted text for the form may have, has its words at the start of these
pub record Stands (form : ℕ) (part : Part) (ws : List ℕ) (l : PolicyLine) : Type 0 where
  pub kind : in_part form part l ≡ true
  pub sound : valid l ≡ true
  pub words : ws ≡ line_words l ++ drop (length (line_words l)) ws

-- the words are those of such lines, one after another, no more than there is room for
pub record AreLines (form : ℕ) (part : Part) (room : ℕ) (ws : List ℕ) (ls : List PolicyLine) : Type 0 where
  pub kind : list_all (in_part form part) ls ≡ true
  pub sound : list_all valid ls ≡ true
  pub few : length ls ≤ room
  pub words : ws ≡ lines_words ls
