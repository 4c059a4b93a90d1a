-- Laws of filling a lent buffer: what an answer of a size says, and that a refusal changes no byte.
use Rattle.std.proofs.Common.{arith, ℕ, ◌≤◌, List, ◌≡◌, length, take, drop, Ok, Err}
use Rattle.std.proofs.Math.Seq.{take-append_seam, drop-append_seam}
use Rattle.policy.specs.Fill.{fill}
use Rattle.policy.specs.declared.fault.Refusal.{Refusal}

-- the first bytes of a buffer, so many, and those behind them
pub record Delivered (bytes buffer after : List ℕ) (size : ℕ) : Type 0 where
  pub room : length bytes ≤ length buffer
  pub long : length bytes ≡ size
  pub front : take size after ≡ bytes
  pub behind : drop size after ≡ drop size buffer

module _ (bytes buffer : List ℕ) where
  pub fill_delivered : (size : ℕ) → (fill bytes buffer).answer ≡ Ok size → Delivered bytes buffer (fill bytes buffer).buffer size
  fill_delivered size e = grind (arith, take-append_seam bytes (drop (length bytes) buffer), drop-append_seam bytes (drop (length bytes) buffer))

  pub fill_unchanged : (r : Refusal) → (fill bytes buffer).answer ≡ Err r → (fill bytes buffer).buffer ≡ buffer
  fill_unchanged r e = grind arith
