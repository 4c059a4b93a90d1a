-- What the function that compiles and decides leaves, against the reference machine.
use Rattle.policy.specs.declared.fault.Refusal.{Refusal}
use Rattle.std.specs.Prelude.{ℕ, true, List, [], ◌∷◌, ◌≡◌, map, take, length, min, Result, Ok}
use Rattle.policy.specs.Policy.{Policy}
use Rattle.rule_text.specs.Text.{read_texts}
use Rattle.layout.specs.Layout.{known_form, image_of}
use Rattle.policy.specs.Set.{EventSet, no_events}
use Rattle.monitor.specs.Decision.{advanced, answer_of}
use Rattle.monitor.specs.declared.state.Decided.{Decided}
use Rattle.monitor.specs.declared.decision.Actions.{Actions}
use Rattle.guarantees.specs.Machine.{ToldLine, steps}
use Rattle.guarantees.specs.declared.Told.{Told}

-- the lines that are lent, each with its mode
unfoldable pub told : List Told → List ToldLine
told lines = map (λ (x : Told). record { mode = x.mode; line = x.line.now }) lines

-- the decisions after the lines were decided on an image, one after another, as many as there is room for, the first where these events
-- are pending
unfoldable pub decided_lines : List ℕ → EventSet → List Told → List (Result Actions Refusal) → List (Result Actions Refusal)
decided_lines image pending [] ds = ds
decided_lines image pending (x ∷ lines) [] = []
decided_lines image pending (x ∷ lines) (d ∷ ds) =
    let next : Decided = advanced x.mode image pending x.line.now in
    next.answer ∷ decided_lines image next.pending lines ds

-- two texts were accepted, and each line for which there was room was decided on the image of their policy in a form that is known: as
-- the reference machine answers it, which sees the policy and no image
pub record DecidedBy (form : ℕ) (maker site : List ℕ) (lines : List Told) (old new : List (Result Actions Refusal)) : Type 0 where
  pub known : known_form form ≡ true
  pub policy : Policy
  pub read : read_texts form maker site ≡ Ok policy
  pub decided : new ≡ decided_lines (image_of form policy) no_events lines old
  pub agreed : map answer_of (take (min (length lines) (length old)) new) ≡ steps policy no_events (take (length old) (told lines))
