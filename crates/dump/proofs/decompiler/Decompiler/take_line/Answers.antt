use Rattle.std.proofs.Common.{ℕ, List, ◌++◌, ap, sym, ◌∙◌, take}
use Rattle.dump.specs.Steps.Sizes.{dump_size}
use Rattle.dump.proofs.Whole.{line_word}
use Rattle.dump.proofs.decompiler.Decompiler.take_line.Goals as goal

pub returns-in-Some : goal.returns-in-Some
returns-in-Some c rest =
    let self = c.args.self.now in
    let held =
    c.keep-self.ensures.value ∙ ap (λ (k : ℕ). take k (take self.size self.image ++ c.to_be_bytes.result)) self.image_long
    ∙ ap (λ (l : List ℕ). take dump_size (take self.size self.image ++ l)) c.to_be_bytes.ensures in
    rw c.if-self.false (line_word (take self.size self.image) self.lines c.args.line.now c.in-Some.word _ (sym c.word_in.ensures ∙ c.in-Some.is) held rest)
