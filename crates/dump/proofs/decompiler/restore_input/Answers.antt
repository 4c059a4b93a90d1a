use Rattle.std.proofs.Common.{◌≡◌, [], ◌++◌, take, false}
use Rattle.std.proofs.lemmas.Result.{IfErr-weaker}
use Rattle.lined.specs.Lines.{ended_lines, open_line, last_line, cut_to}
use Rattle.stream.proofs.ConversationLaws.{listing_ends}
use Rattle.dump.specs.Dump.{restored}
use Rattle.dump.specs.Steps.Lines.{read_in}
use Rattle.dump.proofs.Whole.{all_restored}
use Rattle.dump.proofs.decompiler.restore_input.Goals as goal

-- what is printed for the lines as they are handed on
same : (λ input. read_in false [] 0 (cut_to 9 (ended_lines input) ++ last_line (take 9 (open_line input)))) ≡ restored
same = λ i. λ input. all_restored input i

pub returns-clause-ok : goal.returns-clause-ok
returns-clause-ok g c = rw (← same) c.answer_lines.ensures.ok

pub returns-clause-err : goal.returns-clause-err
returns-clause-err g c = rw (← same) (IfErr-weaker c.answer_lines.result _ _ (λ e h. listing_ends e _ _ _ h) c.answer_lines.ensures.err)
