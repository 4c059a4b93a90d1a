-- How the code goes over a line, word by word. That this finds the lines that `line_at` finds, and their values, is proved
-- (`scan_line_is` in proofs/ScanLines.antt, `line_from_is` in proofs/ReadLaws.antt): a reader need not believe this file.
use Rattle.std.specs.Prelude.{ℕ, zero, suc, ◌+◌, ◌-◌, ◌*◌, ◌/◌, ◌%◌, ◌^◌, ◌<◌, ◌≤◌, ◌≡◌, Bool, false, not, ◌&&◌, ◌||◌, if◌then◌else◌, List, [], ◌∷◌, ◌++◌, map, fold, length, take, drop, ◌==◌, nat_lt, nat_le, slice_index_or}
use Rattle.line_value.specs.Value.{fits, line_of}
use Rattle.policy.specs.Limits.{head_limit, comparison_limit, repeats, trigger_form, ending_allowed}
use Rattle.policy.specs.Line.{PolicyLine, ending_part}
use Rattle.policy.specs.Set.{insert}
use Rattle.policy.specs.declared.comparison.Operand.{Operand}
use Rattle.policy.specs.declared.line.Ending.{Ending}
use Rattle.operation.specs.Operation.{opcode}
use Rattle.operation.specs.Parts.{ending_word}
use Rattle.operation.specs.Fields.{first_of, second_of, relation_code_of, skip_of}
use Rattle.operation.specs.Said.{says}
use Rattle.operation.specs.Whole.{ends}
use Rattle.decode.specs.Steps.Decoding.{said_in}
use Rattle.decode.specs.declared.Parts.{Parts}
use Rattle.operation.specs.declared.operation.Operation.{Operation}
use Rattle.operation.specs.declared.said.LinePart.{LinePart}
use Rattle.policy.specs.declared.line.Part.{Part}

-- whether a word says a head of the part
unfoldable pub is_head : Part → LinePart → Bool
is_head part (LinePart.Head t) = fits part t
is_head _ _ = false

-- ---- words by one comparison: each less the word that is expected, and turned

-- one word less another, as words are subtracted
abbrev pub less : ℕ → ℕ → ℕ
less w other = (w + (2 ^ 32 - other)) % 2 ^ 32

-- the number lowest, the operation behind it, and above them what is below a number
abbrev pub number_lowest : ℕ → ℕ → ℕ
number_lowest w other = less w other / 2 ^ 22 + less w other % 2 ^ 22 * 2 ^ 10

-- the relation lowest, the second number and the first behind it, the operation, and above them what is below a relation
abbrev pub relation_lowest : ℕ → ℕ → ℕ
relation_lowest w other = less w other / 2 ^ 13 + less w other % 2 ^ 13 * 2 ^ 19

-- the first operation of heads, as a word with nothing else, and how many operations they have
abbrev pub first_head : Part → ℕ
first_head Part.Rules = opcode Operation.Present * 2 ^ 28
first_head Part.Constraints = opcode Operation.Member * 2 ^ 28

abbrev pub head_operations : Part → ℕ
head_operations Part.Rules = 2
head_operations Part.Constraints = 1

-- the same of endings that each form has, and how many numbers they have
abbrev pub first_ending : Part → ℕ
first_ending Part.Rules = opcode Operation.Proposes * 2 ^ 28
first_ending Part.Constraints = opcode Operation.Never * 2 ^ 28

abbrev pub ending_numbers : Part → ℕ
ending_numbers Part.Rules = 64
ending_numbers Part.Constraints = 1

-- whether a word ends a rule that triggers an event, in a form that has such
unfoldable pub is_trigger : (form : ℕ) → Part → ℕ → Bool
is_trigger form Part.Rules w = nat_le trigger_form form && nat_lt (number_lowest w (opcode Operation.Triggers * 2 ^ 28)) 64
is_trigger form Part.Constraints w = false

-- ---- a line

-- the ending word of a line: it says an ending of the part that the form has, and nothing else is in it
unfoldable pub is_ending_of : (form : ℕ) → Part → ℕ → LinePart → Bool
is_ending_of form part w (LinePart.Ending e) = ends part e && ending_allowed form e && w == ending_word e
is_ending_of form _ _ _ = false

unfoldable pub is_ending : (form : ℕ) → Part → ℕ → Bool
is_ending form part w = is_ending_of form part w (says w 0)

-- whether the word w may stand as a head, with `left` words of the line behind it
unfoldable pub head_sound : Part → ℕ → ℕ → Bool
head_sound part w left = w % 2 ^ 22 == left && is_head part (says w 0)

-- how many heads there are, of n words before the ending word
unfoldable pub count_heads : Part → ℕ → List ℕ → ℕ
count_heads part zero ws = 0
count_heads part (suc n) ws = if head_sound part (slice_index_or ws 0 0) (suc n) then suc (count_heads part n (drop 1 ws)) else 0

-- the numbers of so many heads, and as a set
abbrev pub head_numbers : ℕ → List ℕ → List ℕ
head_numbers n ws = map first_of (take n ws)

abbrev pub numbers_of : List ℕ → ℕ
numbers_of ns = fold insert 0 ns

unfoldable pub constant_sound : ℕ → ℕ → Bool
constant_sound w left = nat_lt (first_of w) 16 && nat_lt (relation_code_of w) 6 && second_of w == 0 && w % 2 ^ 13 + 1 == left && nat_lt 1 left

unfoldable pub reading_sound : ℕ → ℕ → Bool
reading_sound w left = nat_lt (first_of w) 16 && nat_lt (relation_code_of w) 6 && nat_lt (second_of w) 16 && w % 2 ^ 13 == left

-- how many words a comparison with the operand has, that w begins; 0 where none may stand
unfoldable pub operand_length : Operand → ℕ → ℕ → ℕ
operand_length (Operand.Constant k) w left = if constant_sound w left then 2 else 0
operand_length (Operand.Reading r) w left = if reading_sound w left then 1 else 0

unfoldable pub length_by : LinePart → ℕ → ℕ → ℕ
length_by (LinePart.Comparison c) w left = operand_length c.operand w left
length_by _ w left = 0

unfoldable pub comparison_length : ℕ → ℕ → ℕ
comparison_length w left = length_by (says w 0) w left

-- the words behind the comparison that words begin with
pub record IsBehind (ws behind : List ℕ) : Type 0 where
  pub some : 0 < comparison_length (slice_index_or ws 0 0) (length ws)
  pub inside : comparison_length (slice_index_or ws 0 0) (length ws) ≤ length ws
  pub behind_it : behind ≡ drop (comparison_length (slice_index_or ws 0 0) (length ws)) ws

-- whether comparisons, at most so many, fill n words
unfoldable pub comparisons_fill : ℕ → ℕ → List ℕ → Bool
comparisons_fill zero n ws = n == 0
comparisons_fill (suc room) n ws =
    n == 0
    || (not (comparison_length (slice_index_or ws 0 0) n == 0)
    && comparisons_fill room (n - comparison_length (slice_index_or ws 0 0) n) (drop (comparison_length (slice_index_or ws 0 0) n) ws))

-- how many words the line at the start has; 0 where none stands there. The first word's skip says how many follow it
unfoldable pub scan_line : (form : ℕ) → Part → List ℕ → ℕ
scan_line form part ws =
    let n : ℕ = skip_of (slice_index_or ws 0 0) in
    let h : ℕ = count_heads part n ws in
    if nat_lt n (length ws) && is_ending form part (slice_index_or ws n 0) && nat_lt 0 h && nat_le h 8 && not (repeats (head_numbers h ws)) && comparisons_fill 4 (n - h) (drop h ws) then n + 1 else 0

-- ---- the line that words say, word by word

-- what a line ends as whose last word says so
unfoldable pub ending_said : LinePart → Ending
ending_said (LinePart.Ending e) = e
ending_said _ = Ending.Never

abbrev pub last_ending : List ℕ → Ending
last_ending ws = ending_said (says (slice_index_or ws (length ws - 1) 0) 0)

abbrev pub no_parts : Parts
no_parts = record { heads = []; comparisons = [] }

-- one part more, where it is of the kind and there is room for it
unfoldable pub with_part : Part → Parts → LinePart → Parts
with_part part p (LinePart.Head t) = if fits part t && nat_lt (length p.heads) head_limit then (record { heads = p.heads ++ t ∷ []; comparisons = p.comparisons }) else p
with_part part p (LinePart.Comparison c) = if nat_lt (length p.comparisons) comparison_limit then (record { heads = p.heads; comparisons = p.comparisons ++ c ∷ [] }) else p
with_part part p _ = p

-- the parts that the words before the last say
abbrev pub parts_from : Part → List ℕ → Parts
parts_from part ws = fold (with_part part) no_parts (said_in 0 (take (length ws - 1) ws))

abbrev pub line_from : List ℕ → PolicyLine
line_from ws =
    let p : Parts = parts_from (ending_part (last_ending ws)) ws in
    line_of p.heads p.comparisons (last_ending ws)
