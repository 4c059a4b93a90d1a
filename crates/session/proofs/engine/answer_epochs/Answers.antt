use Rattle.std.proofs.lemmas.Result.{IfErr-weaker, on_ok_weaker}
use Rattle.stream.proofs.ConversationLaws.{answers_same, ends_same}
use Rattle.session.proofs.Whole.{all_printed, all_due}
use Rattle.session.proofs.engine.answer_epochs.Goals as goal

pub returns-clause-ok : goal.returns-clause-ok
returns-clause-ok g c = on_ok_weaker c.answer_lines.result (answers_same _ _ all_printed all_due) c.answer_lines.ensures.ok

pub returns-clause-err : goal.returns-clause-err
returns-clause-err g c = IfErr-weaker c.answer_lines.result _ _ (ends_same _ _ all_printed all_due) c.answer_lines.ensures.err
