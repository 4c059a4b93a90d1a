-- A machine that answers lines, and what its run prints.
use Rattle.std.specs.Prelude.{◌≡◌, ℕ, List, [], ◌∷◌, ◌++◌, take}
use Rattle.lined.specs.Lines.{ended_behind, open_behind, cut_to}

-- from `old` to `new` a machine took a line, and `text` is what it printed
pub record LineGoes {M : Type 0} (given : M → List (List ℕ) → List ℕ) (printed : M → List (List ℕ) → List ℕ → List ℕ) (old new : M) (line text : List ℕ) : Type 0 where
  pub at_once : (rest : List (List ℕ)) → given old (line ∷ rest) ≡ text ++ given new rest
  pub in_all : (rest : List (List ℕ)) (last : List ℕ) → printed old (line ∷ rest) last ≡ text ++ printed new rest last

-- ---- what is printed where `line` is open and these bytes follow, and of each line `most` bytes are handed on

module _ {M : Type 0} where
  -- if the input ends behind them
  abbrev pub answer_behind : (printed : M → List (List ℕ) → List ℕ → List ℕ) → M → (most : ℕ) → (line bytes : List ℕ) → List ℕ
  answer_behind printed machine most line bytes = printed machine (cut_to most (ended_behind line bytes)) (take most (open_behind line bytes))

  -- if more may follow: what is printed for the lines that have ended
  abbrev pub due_behind : (given : M → List (List ℕ) → List ℕ) → M → (most : ℕ) → (line bytes : List ℕ) → List ℕ
  due_behind given machine most line bytes = given machine (cut_to most (ended_behind line bytes))

  -- ---- the whole: all bytes of an input

  abbrev pub line_answer : (printed : M → List (List ℕ) → List ℕ → List ℕ) → M → (most : ℕ) → List ℕ → List ℕ
  line_answer printed machine most bytes = answer_behind printed machine most [] bytes

  abbrev pub line_due : (given : M → List (List ℕ) → List ℕ) → M → (most : ℕ) → List ℕ → List ℕ
  line_due given machine most bytes = due_behind given machine most [] bytes
