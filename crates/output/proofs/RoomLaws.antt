-- Where there is room, what was appended stands behind what was there.
use Rattle.std.proofs.Common.{ℕ, suc, ◌+◌, ◌≤◌, List, [], ◌∷◌, ◌++◌, append-nil, ◌≡◌, arith, length, take, length-set, take-suc-set, set}
use Rattle.std.proofs.Math.Seq.{append_snoc}
use Rattle.output.specs.Buffer.{appended, behind}
use Rattle.output.proofs.AppendLaws.{Put}

append_take : (buffer : List ℕ) (at : ℕ) (bytes : List ℕ) → at + length bytes ≤ length buffer
    → take (at + length bytes) (appended buffer at bytes) ≡ take at buffer ++ bytes
unfolding appended
append_take buffer at [] h = grind (arith, append-nil)
append_take buffer at (b ∷ bs) h = grind (arith, append_take (set buffer at b) (suc at) bs, length-set buffer at b, take-suc-set buffer at b, append_snoc (take at buffer) b bs)

module _ (buffer : List ℕ) (at : ℕ) (bytes after : List ℕ) (end : ℕ) (room : at + length bytes ≤ length buffer) where
  pub put_end : Put buffer at bytes after end → end ≡ at + length bytes
  unfolding behind
  put_end h = grind arith

  pub put_take : Put buffer at bytes after end → take end after ≡ take at buffer ++ bytes
  put_take (p, q) = grind (arith, put_end, append_take)
