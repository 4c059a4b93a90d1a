-- The lines of a part of an image, and where no line fits, which is the location of fault 11. Both answers are tied to the lines whose
-- words stand there by laws (`part_whole_exactly` and `part_fault_exactly` in guarantees).
use Rattle.std.specs.Prelude.{ℕ, zero, suc, ◌+◌, List, [], ◌∷◌, length, drop, Result, Ok, Err, Option, Some, None}
use Rattle.policy.specs.Limits.{line_limit}
use Rattle.policy.specs.Line.{PolicyLine}
use Rattle.word.specs.Word.{between}
use Rattle.decode.specs.Decode.{line_at}
use Rattle.image.specs.Check.{form_byte, rule_words, constraint_words}
use Rattle.layout.specs.Layout.{line_words}
use Rattle.policy.specs.declared.line.Part.{Part}

-- Answers are all lines up to the end of the part, or the first line start at which none fits.

unfoldable pub add_line : PolicyLine → Result (List PolicyLine) ℕ → Result (List PolicyLine) ℕ
add_line l (Ok ls) = Ok (l ∷ ls)
add_line l (Err at) = Err at

-- the answer at a line start, with what follows a line that fits
unfoldable pub after_line : ℕ → Option PolicyLine → (PolicyLine → Result (List PolicyLine) ℕ) → Result (List PolicyLine) ℕ
after_line at None next = Err at
after_line at (Some l) next = add_line l (next l)

-- the words of a part from the index `at` on, with room for so many lines
unfoldable pub lines_from : (form : ℕ) → Part → ℕ → ℕ → List ℕ → Result (List PolicyLine) ℕ
lines_from form part zero at [] = Ok []
lines_from form part zero at (w ∷ ws) = Err at
lines_from form part (suc room) at [] = Ok []
lines_from form part (suc room) at (w ∷ ws) =
    after_line at (line_at form part (w ∷ ws))
    (λ (l : PolicyLine). lines_from form part room (at + length (line_words l)) (drop (length (line_words l)) (w ∷ ws)))

-- the lines of a part that stands between two indexes
unfoldable pub part_lines : (form : ℕ) → Part → ℕ → ℕ → List ℕ → Result (List PolicyLine) ℕ
part_lines form part from end ws = lines_from form part (line_limit part) from (between from end ws)

-- the words of each part
abbrev pub rule_part : List ℕ → List ℕ
rule_part ws = between 1 (1 + rule_words ws) ws

abbrev pub constraint_part : List ℕ → List ℕ
constraint_part ws = between (1 + rule_words ws) (1 + rule_words ws + constraint_words ws) ws

abbrev pub rule_lines : List ℕ → Result (List PolicyLine) ℕ
rule_lines ws = part_lines (form_byte ws) Part.Rules 1 (1 + rule_words ws) ws

abbrev pub constraint_lines : List ℕ → Result (List PolicyLine) ℕ
constraint_lines ws = part_lines (form_byte ws) Part.Constraints (1 + rule_words ws) (1 + rule_words ws + constraint_words ws) ws
