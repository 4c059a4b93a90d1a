-- Each way through a decision: what the loader and the reader of lines answered on it, and the decision by the definition.
use Rattle.std.proofs.Common.{ℕ, true, false, List, ◌≡◌, Ok, Err}
use Rattle.policy.specs.declared.epoch.Epoch.{Epoch}
use Rattle.policy.specs.Fault.{refusal}
use Rattle.policy.specs.Set.{EventSet, meets}
use Rattle.policy.specs.declared.fault.Fault.{Fault}
use Rattle.policy.specs.declared.fault.Refusal.{Refusal}
use Rattle.policy.specs.declared.mode.Mode.{Mode}
use Rattle.pdl.specs.Yield.{with_pending}
use Rattle.epoch_line.specs.Epoch.{read_epoch}
use Rattle.image.specs.Load.{Contents, load}
use Rattle.monitor.specs.Decision.{decided_by, reserved_in, on_image, decision_in}

module _ (mode : Mode) (image : List ℕ) (pending : EventSet) (line : List ℕ) where
  pub image_refused : (r : Refusal) → load image ≡ Err r → Err r ≡ decision_in mode image pending line
  unfolding decision_in on_image
  image_refused r e = rw e

  module _ (contents : Contents) (taken : load image ≡ Ok contents) where
    pub line_refused : (r : Refusal) → read_epoch line ≡ Err r → Err r ≡ decision_in mode image pending line
    unfolding decision_in on_image
    line_refused r e = rw (taken, e)

    module _ (e : Epoch) (read : read_epoch line ≡ Ok e) where
      pub reserved_refused : meets (reserved_in contents) e.events ≡ true → Err (refusal Fault.ReservedEvent 0) ≡ decision_in mode image pending line
      unfolding decision_in on_image
      reserved_refused h = rw (taken, read, h)

      pub line_accepted : meets (reserved_in contents) e.events ≡ false → decided_by mode contents (with_pending pending e) ≡ decision_in mode image pending line
      unfolding decision_in on_image
      line_accepted h = rw (taken, read, h)
