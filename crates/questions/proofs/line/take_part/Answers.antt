use Rattle.std.proofs.Common.{◌≡◌, sym, ap, ◌∙◌, ◌++◌, take, fold, arith, length, length-take-le}
use Rattle.questions.specs.Answered.{word_of}
use Rattle.questions.specs.Steps.Held.{with_byte}
use Rattle.questions.specs.Steps.Place.{open_at}
use Rattle.questions.proofs.LineLaws.{held_word, word_goes, line_goes}
use Rattle.questions.proofs.line.take_part.Goals as goal

pub take_word-end-requires-clause-name : goal.take_word-end-requires-clause-name
take_word-end-requires-clause-name c =
    let same : word_of (take c.args.at.size c.args.held.now) ≡ take c.args.at.size c.args.held.now = held_word _ (sym c.is_word.ensures ∙ c.if-is_word.true) in
    omega (arith, c.requires.short.few, ap length same, length-take-le c.args.at.size c.args.held.now c.requires.within)

pub returns-then-is_word-clause-goes : goal.returns-then-is_word-clause-goes
returns-then-is_word-clause-goes c =
    let told = c.take_word-end.ensures in
    let w = take c.take_word-end.result.size c.take_word-end.new.held in
    word_goes (length c.take_word-end.new.held) (omega (arith, told.room, c.requires.room)) c.args.at.names _ c.args.part.now _ _ c.requires.short (sym c.is_word.ensures ∙ c.if-is_word.true) w
    (told.value ∙ ap (fold with_byte (open_at c.args.at c.args.held.now)) c.first_word.ensures)
    (c.keep.ensures.value ∙ ap (λ t. take (length c.take_word-end.new.held) (w ++ t)) c.behind_word.ensures)

pub returns-else-is_word-clause-goes : goal.returns-else-is_word-clause-goes
returns-else-is_word-clause-goes c =
    line_goes (length c.args.held.now) c.requires.room _ _ c.args.part.now _ c.requires.short (sym c.is_word.ensures ∙ c.if-is_word.false) c.keep-else-is_word.ensures.value
