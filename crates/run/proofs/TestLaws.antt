-- Where the test of a word goes on.
use Rattle.std.proofs.Common.{ℕ, ◌≤◌, Bool, ◌≡◌, ap, arith}
use Rattle.operation.specs.Said.{constants_of}
use Rattle.operation.specs.declared.said.LinePart.{LinePart}
use Rattle.run.specs.Steps.Test.{tested}
use Rattle.run.specs.declared.test.Tested.{Tested}

pub constants_small : (p : LinePart) → constants_of p ≤ 1
unfolding constants_of
constants_small p = grind arith

pub tested_past : (t : Tested) (b : Bool) (p : LinePart) (behind : ℕ) → t ≡ tested b p behind → behind ≤ t.next
tested_past t b p behind e = omega (arith, ap (λ (x : Tested). x.next) e)
