use Rattle.std.proofs.Common.{◌≡◌, take}
use Rattle.questions.proofs.Room.{cut_texts}
use Rattle.questions.specs.Run.{AnswersTexts, QuestionsEndBy}
use Rattle.questions.proofs.texts.explain_texts.Goals as goal
use Rattle.questions.specs.Steps.Sizes.{text_held}

pub returns-in-Ok-answer_questions-clause-ok : goal.returns-in-Ok-answer_questions-clause-ok
returns-in-Ok-answer_questions-clause-ok g c =
    let (first, second, read, read', kept) = c.in-Ok.ensures.ok in
    let maker : take c.in-Ok.sizes.0 c.read_both.new.first_front ≡ take text_held first = kept.0 in
    let site : take c.in-Ok.sizes.1 c.read_both.new.second_front ≡ take text_held second = kept.1 in
    let old = g.E.Ends.known c.args.ends.now in
    let new = g.E.Ends.known c.answer_questions.new.ends in
    (first, second, read, read', cut_texts first second _ _ maker site (λ s x y. AnswersTexts s x y old new) (λ x h. h) c.in-Ok-answer_questions.ensures.ok)

pub returns-in-Err-clause-err : goal.returns-in-Err-clause-err
returns-in-Err-clause-err g c =
    let (first, second, read, read', kept) = c.in-Ok.ensures.ok in
    let maker : take c.in-Ok.sizes.0 c.read_both.new.first_front ≡ take text_held first = kept.0 in
    let site : take c.in-Ok.sizes.1 c.read_both.new.second_front ≡ take text_held second = kept.1 in
    let old = g.E.Ends.known c.args.ends.now in
    let new = g.E.Ends.known c.answer_questions.new.ends in
    (first, second, read, read', cut_texts first second _ _ maker site (λ s x y. QuestionsEndBy c.in-Err.e s x y old new) (λ x h. h) c.in-Err.ensures.err)
