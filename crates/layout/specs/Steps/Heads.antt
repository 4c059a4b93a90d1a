-- The words of the heads of a line, as the code writes them: front to back.
use Rattle.std.specs.Prelude.{ℕ, ◌-◌, List, [], ◌∷◌}
use Rattle.policy.specs.declared.line.Test.{Test}
use Rattle.operation.specs.Parts.{test_word}

-- of heads alone, in a line of so many words from the first of them on
unfoldable pub head_words : List Test → ℕ → List ℕ
head_words [] size = []
head_words (t ∷ ts) size = test_word t (size - 1) ∷ head_words ts (size - 1)
