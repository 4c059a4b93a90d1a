use Rattle.kinohazel_tools.proofs.ExportLaws.{explain_refused, explain_said}
use Rattle.kinohazel_tools.specs.Export.{explanation_of}
use Rattle.kinohazel_tools.proofs.kinohazel_explain_nonnull.Goals as goal

pub returns-in-Err : goal.returns-in-Err
returns-in-Err c = explain_refused _ _ _ _ _ _ c.action_number-number.ensures _ _ _ (rw c.of.ensures at c.in-Err.ensures) c.number.ensures c.number-in-Err.ensures

pub returns-in-Ok-NotProposed : goal.returns-in-Ok-NotProposed
unfolding explanation_of
returns-in-Ok-NotProposed c = explain_said _ _ _ _ _ _ c.action_number-number.ensures _ _ (rw (c.of.ensures, c.in-Ok-NotProposed.field-0-is) at c.in-Ok-NotProposed.ensures) c.no_part.ensures

pub returns-in-Ok-Accepted : goal.returns-in-Ok-Accepted
unfolding explanation_of
returns-in-Ok-Accepted c = explain_said _ _ _ _ _ _ c.action_number-number.ensures _ _ (rw (c.of.ensures, c.in-Ok-Accepted.field-0-is) at c.in-Ok-Accepted.ensures) c.shows.ensures

pub returns-in-Ok-Cancelled : goal.returns-in-Ok-Cancelled
unfolding explanation_of
returns-in-Ok-Cancelled c = explain_said _ _ _ _ _ _ c.action_number-number.ensures _ _ (rw (c.of.ensures, c.in-Ok-Cancelled.field-0-is) at c.in-Ok-Cancelled.ensures) c.shows-in-Ok-Cancelled.ensures
