-- What words say: the words of the parts of a line say these parts, and what a word says is told by its operation.
use Rattle.std.proofs.Common.{ℕ, ◌<◌, true, false, ◌≡◌, refl, ap, ◌∙◌, lt-ltb, arith}
use Rattle.policy.specs.Effect.{effect_number}
use Rattle.policy.specs.Limits.{test_number, effect_in_range, ending_in_range}
use Rattle.policy.specs.declared.comparison.Comparison.{Comparison}
use Rattle.policy.specs.declared.effect.Effect.{Effect}
use Rattle.policy.specs.declared.line.Ending.{Ending}
use Rattle.policy.specs.declared.line.Test.{Test}
use Rattle.operation.specs.Fields.{operation_of, first_of}
use Rattle.operation.specs.Parts.{test_operation, test_word, effect_operation, ending_word, event_from, action_from, constant_comparison, reading_comparison}
use Rattle.operation.specs.Said.{says_by, says, constants_of}
use Rattle.operation.specs.declared.operation.Operation.{Operation}
use Rattle.operation.specs.declared.said.LinePart.{LinePart}
use Rattle.operation.proofs.PartsLaws.{test_packed, ending_number, ending_operation, ending_packed}

pub said_by : (w k : ℕ) (o : Operation) → operation_of w ≡ o → says w k ≡ says_by o w k
unfolding says
said_by w k o e = ap (λ (x : Operation). says_by x w k) e

-- ---- the words of the parts of a line

test_says : (t : Test) (w k : ℕ) → first_of w ≡ test_number t → says_by (test_operation t) w k ≡ LinePart.Head t
unfolding says_by test_operation test_number
test_says t w k f = grind arith

pub test_said : (t : Test) (skip k : ℕ) → test_number t < 64 → skip < 32 → says (test_word t skip) k ≡ LinePart.Head t
test_said t skip k h b = let p = test_packed t skip h b in said_by (test_word t skip) k (test_operation t) p.operation ∙ test_says t (test_word t skip) k p.first_is

ending_says : (e : Ending) (w k : ℕ) → first_of w ≡ ending_number e → says_by (ending_operation e) w k ≡ LinePart.Ending e
unfolding says_by effect_operation effect_number
ending_says e w k f = grind arith

pub ending_said : (e : Ending) (k : ℕ) → ending_in_range e ≡ true → says (ending_word e) k ≡ LinePart.Ending e
ending_said e k h = let p = ending_packed e h in said_by (ending_word e) k (ending_operation e) p.operation ∙ ending_says e (ending_word e) k p.first_is

-- a comparison with a constant, which is the word behind, and one with a reading
module _ (c : Comparison) (w k : ℕ) where
  pub constant_said : operation_of w ≡ Operation.AgainstConstant → constant_comparison w k ≡ c → (says w k ≡ LinePart.Comparison c) × (constants_of (LinePart.Comparison c) ≡ 1)
  unfolding says_by constants_of constant_comparison
  constant_said o b = rw (← b) (said_by w k Operation.AgainstConstant o, refl)

  pub reading_said : operation_of w ≡ Operation.AgainstReading → reading_comparison w ≡ c → (says w k ≡ LinePart.Comparison c) × (constants_of (LinePart.Comparison c) ≡ 0)
  unfolding says_by constants_of reading_comparison
  reading_said o b = rw (← b) (said_by w k Operation.AgainstReading o, refl)

-- ---- the cases of what a word says

pub data Said (w k : ℕ) : Type 0 where
  said_head : (t : Test) → says w k ≡ LinePart.Head t → operation_of w ≡ test_operation t → test_number t ≡ first_of w → Said w k
  said_constant : says w k ≡ LinePart.Comparison (constant_comparison w k) → operation_of w ≡ Operation.AgainstConstant → Said w k
  said_reading : says w k ≡ LinePart.Comparison (reading_comparison w) → operation_of w ≡ Operation.AgainstReading → Said w k
  said_ending : (e : Ending) → says w k ≡ LinePart.Ending e → ending_in_range e ≡ true → Said w k
  said_nothing : says w k ≡ LinePart.Nothing → Said w k

pub said : (w k : ℕ) → Said w k
unfolding says_by test_operation test_number ending_in_range effect_in_range effect_number
said w k = go (operation_of w) refl
  where
    go : (o : Operation) → operation_of w ≡ o → Said w k
    go Operation.Present e = said_head (Test.Occurs (record { event = event_from w; negated = false })) (said_by w k Operation.Present e) e refl
    go Operation.Absent e = said_head (Test.Occurs (record { event = event_from w; negated = true })) (said_by w k Operation.Absent e) e refl
    go Operation.Member e = said_head (Test.Member (action_from w)) (said_by w k Operation.Member e) e refl
    go Operation.AgainstConstant e = said_constant (said_by w k Operation.AgainstConstant e) e
    go Operation.AgainstReading e = said_reading (said_by w k Operation.AgainstReading e) e
    go Operation.Proposes e = said_ending (Ending.Yields (Effect.Causes (action_from w))) (said_by w k Operation.Proposes e) (lt-ltb (first_of w) 64 (omega arith))
    go Operation.Triggers e = said_ending (Ending.Yields (Effect.Triggers (event_from w))) (said_by w k Operation.Triggers e) (lt-ltb (first_of w) 64 (omega arith))
    go Operation.Never e = said_ending Ending.Never (said_by w k Operation.Never e) refl
    go Operation.Unknown e = said_nothing (said_by w k Operation.Unknown e)
