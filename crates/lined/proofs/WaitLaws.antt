-- What is handed out behind what waits.
use Rattle.std.proofs.Common.{◌≡◌, ℕ, arith, ◌+◌, List, [], ◌∷◌, ◌++◌, take, append_assoc, add-one}
use Rattle.stream.specs.Machine.{Goes}
use Rattle.lined.specs.Lines.{EndsAt}
use Rattle.lined.specs.Waiting.{Waiting, given_behind, printed_behind}

module _ {M : Type 0} (given printed : M → List ℕ → List ℕ) where
  abbrev Moves : Waiting M → Waiting M → List ℕ → Type 0
  Moves old new bytes = Goes (given_behind given) (printed_behind printed) old new bytes []

  -- what was printed waits behind what did
  pub goes_behind : (old new : M) (waits waits' bytes text : List ℕ) → waits' ≡ waits ++ text → Goes given printed old new bytes text
      → Moves (record { machine = old; waits = waits }) (record { machine = new; waits = waits' }) bytes
  goes_behind old new waits waits' bytes text put p = rw put (record { at_once = λ rest. grind (arith, append_assoc, p); in_all = λ rest. grind (arith, append_assoc, p) })

  -- to the end of a line
  pub goes_line : (old new : M) (waits waits' bytes text : List ℕ) (n : ℕ) → EndsAt bytes n → waits' ≡ waits ++ text → Goes given printed old new (take n bytes ++ 10 ∷ []) text
      → Moves (record { machine = old; waits = waits }) (record { machine = new; waits = waits' }) (take (n + 1) bytes)
  goes_line old new waits waits' bytes text n ends put p = rw (add-one, ends.1) (goes_behind old new waits waits' (take n bytes ++ 10 ∷ []) text put p)
