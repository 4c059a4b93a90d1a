-- The faults of a line of the right shape, in their order, by the draft of it.
use Rattle.std.specs.Prelude.{if◌then◌else◌, map, Result, Ok, Err}
use Rattle.policy.specs.Limits.{test_number}
use Rattle.policy.specs.Line.{PolicyLine}
use Rattle.policy.specs.Steps.Seen.{seen_in}
use Rattle.policy.specs.declared.fault.Fault.{Fault}
use Rattle.line_value.specs.Value.{line_of}
use Rattle.syntax.specs.declared.draft.Draft.{Draft}

-- the line that a draft is, or the first of its faults
unfoldable pub judged : Draft → Result PolicyLine Fault
judged d =
    if d.in_range then
    (if d.crowded then Err Fault.TooManyParts else (if seen_in 0 (map test_number d.heads) then Err Fault.Duplicate else Ok (line_of d.heads d.comparisons d.ending)))
    else
    (Err Fault.OutOfRange)
