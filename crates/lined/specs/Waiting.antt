-- A machine, and what it printed that waits to be handed out.
use Rattle.std.specs.Prelude.{ℕ, List, ◌++◌, take}

pub record Waiting (M : Type 0) : Type 0 where
  pub machine : M
  pub waits : List ℕ

module _ {M : Type 0} where
  abbrev pub waiting : M → (out : List ℕ) (used : ℕ) → Waiting M
  waiting machine out used = record { machine = machine; waits = take used out }

  -- what is handed out from here on
  abbrev pub given_behind : (given : M → List ℕ → List ℕ) → Waiting M → List ℕ → List ℕ
  given_behind given s bytes = s.waits ++ given s.machine bytes

  abbrev pub printed_behind : (printed : M → List ℕ → List ℕ) → Waiting M → List ℕ → List ℕ
  printed_behind printed s bytes = s.waits ++ printed s.machine bytes
