-- Laws of a buffer to which bytes are appended.
use Rattle.std.proofs.Common.{◌≡◌, ℕ, suc, ◌≤◌, List, [], ◌∷◌, ◌++◌, length, set, drop, refl, arith, length-set}
use Rattle.std.proofs.lemmas.List.{set_past}
use Rattle.std.proofs.Math.Seq.{sets, sets-eq}
use Rattle.output.specs.Buffer.{appended, behind}

pub append_length : (buffer : List ℕ) (at : ℕ) (bytes : List ℕ) → length (appended buffer at bytes) ≡ length buffer
unfolding appended
append_length buffer at [] = refl
append_length buffer at (b ∷ bs) = grind (arith, length-set, append_length (set buffer at b) (suc at) bs)

-- past the end
pub append_out : (buffer : List ℕ) (at : ℕ) (bytes : List ℕ) → length buffer ≤ at → appended buffer at bytes ≡ buffer
unfolding appended
append_out buffer at [] h = refl
append_out buffer at (b ∷ bs) h = grind (arith, set_past, append_out buffer (suc at) bs (omega arith))

-- ---- what is said of bytes that were appended: the position behind them, and the buffer afterwards

abbrev pub Put : List ℕ → ℕ → List ℕ → List ℕ → ℕ → Type 0
Put buffer at bytes after end = (end ≡ behind buffer at bytes) × (after ≡ appended buffer at bytes)

pub put_length : (buffer : List ℕ) (at : ℕ) (x after : List ℕ) (end : ℕ) → Put buffer at x after end → length after ≡ length buffer
put_length buffer at x after end (p, q) = grind (arith, append_length)

-- ---- where there is room for all, the bytes stand in place of those that stood there

append_sets : (buffer : List ℕ) (at : ℕ) (bytes : List ℕ) → appended buffer at bytes ≡ sets buffer at bytes
unfolding appended
append_sets buffer at bytes = grind arith

-- from the start of the buffer
pub append_start : (buffer bytes : List ℕ) → length bytes ≤ length buffer → appended buffer 0 bytes ≡ bytes ++ drop (length bytes) buffer
append_start buffer bytes h = grind (arith, append_sets, sets-eq)
