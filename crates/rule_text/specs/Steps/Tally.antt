-- The counts of a text with one line more.
use Rattle.std.specs.Prelude.{ℕ, ◌+◌, ◌*◌, ◌≤◌, if◌then◌else◌, nat_lt, Result, Ok, Err, length}
use Rattle.policy.specs.Limits.{rule_limit, line_limit}
use Rattle.policy.specs.Line.{PolicyLine, heads_of, comparisons_of, constant_count, line_part, part_get, part_set}
use Rattle.policy.specs.declared.fault.Fault.{Fault}
use Rattle.policy.specs.declared.line.Part.{Part}
use Rattle.policy.specs.declared.line.PerPart.{PerPart}
use Rattle.rule_text.specs.declared.LineCounts.{LineCounts}

-- no more parts than so many lines may have
pub record Within (limit : ℕ) (c : LineCounts) : Type 0 where
  pub lines : c.lines ≤ limit
  pub heads : c.heads ≤ c.lines * 8
  pub comparisons : c.comparisons ≤ c.lines * 4
  pub constants : c.constants ≤ c.lines * 4

-- no part has more lines than the rules may be
abbrev pub Small : PerPart LineCounts → Type 0
Small c = (part : Part) → Within rule_limit (part_get c part)

-- one line more, to the counts of its kind
abbrev pub plus : LineCounts → PolicyLine → LineCounts
plus c l =
    record { lines = c.lines + 1; heads = c.heads + length (heads_of l); comparisons = c.comparisons + length (comparisons_of l); constants = c.constants + constant_count (comparisons_of l) }

-- the counts of a text, with those of one kind where that has a line more
unfoldable pub tally_as : Part → PerPart LineCounts → LineCounts → Result (PerPart LineCounts) Fault
tally_as part c more = if nat_lt (part_get c part).lines (line_limit part) then Ok (part_set c part more) else Err Fault.TooManyLines

unfoldable pub tallied_by : PerPart LineCounts → PolicyLine → Result (PerPart LineCounts) Fault
tallied_by c l = tally_as (line_part l) c (plus (part_get c (line_part l)) l)
