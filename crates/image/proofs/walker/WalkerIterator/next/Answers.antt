use Rattle.std.proofs.Common.{◌+◌, ◌≡◌, ◌∷◌, ap, arith, drop-drop, length}
use Rattle.word.specs.Chunk.{words_in}
use Rattle.image.proofs.GivenLaws.{lines_step}
use Rattle.image.specs.Walk.{lines_left}
use Rattle.image.proofs.walker.WalkerIterator.next.Goals as goal

given : (c : goal.After-read_line) → lines_left (words_in c.args.self.now.words.now) c.args.self.now.at ≡ c.read_line.result ∷ lines_left (words_in c.args.self.now.words.now) (c.args.self.now.at + c.told_length-size.result)
given c = grind (arith, drop-drop, lines_step)

pub returns-clause-steps : goal.returns-clause-steps
returns-clause-steps c = grind (arith, given)

pub returns-clause-goes : goal.returns-clause-goes
returns-clause-goes c = record { on = λ _. (tt, tt, omega (arith, ap length (given c))); keeps = tt; rests = λ _. tt }
