-- What the engine's program prints is what the reference machine says.
use Rattle.policy.specs.declared.fault.Refusal.{Refusal}
use Rattle.std.proofs.Common.{ℕ, List, [], ◌∷◌, ◌≡◌, refl, arith, Result}
use Rattle.policy.specs.Limits.{Acceptable}
use Rattle.policy.specs.Policy.{Policy}
use Rattle.policy.specs.Set.{EventSet}
use Rattle.policy.specs.declared.mode.Mode.{Mode}
use Rattle.acceptance.proofs.Accepted.{accepted_acceptable}
use Rattle.rule_text.specs.Text.{read_text}
use Rattle.layout.specs.Layout.{image_of}
use Rattle.codegen.proofs.AcceptedLaws.{newest_known}
use Rattle.codegen.specs.Compile.{newest_form}
use Rattle.monitor.specs.Decision.{advanced, answer_of, visited_in}
use Rattle.monitor.specs.declared.decision.Actions.{Actions}
use Rattle.report.specs.Report.{refused_line, next_number}
use Rattle.session.specs.Printed.{Session, decision_line, epoch_lines, answers_to, printed_for, printed}
use Rattle.guarantees.specs.Output.{answer_line, machine_answer_lines, machine_lines, machine_prints, fetched}
use Rattle.guarantees.proofs.Agreement.{same_answer, same_pending}
use Rattle.guarantees.specs.Machine.{next_set}

decision_line_is : (n : ℕ) (d : Result Actions Refusal) → decision_line n d ≡ answer_line n (answer_of d) (visited_in d)
unfolding decision_line answer_line refused_line
decision_line_is n d = grind arith

epoch_lines_is : (p : Policy) → Acceptable newest_form p → (mode : Mode) (pending : EventSet) (n : ℕ) (lines : List (List ℕ)) → epoch_lines mode (image_of newest_form p) pending n lines ≡ machine_answer_lines fetched mode p pending n lines
unfolding epoch_lines machine_answer_lines fetched advanced
epoch_lines_is p ok mode pending n [] = refl
epoch_lines_is p ok mode pending n (line ∷ lines) =
    grind (arith, decision_line_is, same_answer newest_form newest_known p ok mode pending line, same_pending newest_form newest_known p ok mode pending line, epoch_lines_is p ok mode (next_set mode p pending line) (next_number n) lines)

text_lines : (text : List ℕ) (s : Session) → printed_for text s ≡ machine_lines fetched (read_text newest_form text) s
unfolding printed_for answers_to machine_lines
text_lines text s = grind (arith, epoch_lines_is, accepted_acceptable)

-- for every input, in the mode that it picks, refused texts and refused lines included; the numbers of words are those of the decisions
-- on the text's image
pub output_agrees : (input : List ℕ) → printed input ≡ machine_prints fetched input
unfolding printed machine_prints
output_agrees input = grind (arith, text_lines)
