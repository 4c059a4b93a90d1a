-- A lent buffer to which bytes are appended. What has no room is dropped.
use Rattle.std.specs.Prelude.{ℕ, suc, ◌+◌, min, List, [], ◌∷◌, length, set}

-- the buffer with the bytes from a position on; a store past the end changes nothing
unfoldable pub appended : List ℕ → ℕ → List ℕ → List ℕ
appended buffer at [] = buffer
appended buffer at (b ∷ bs) = appended (set buffer at b) (suc at) bs

-- the position behind the bytes, or the buffer's end
unfoldable pub behind : List ℕ → ℕ → List ℕ → ℕ
behind buffer at bytes = min (at + length bytes) (length buffer)
