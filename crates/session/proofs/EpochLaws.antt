-- Laws of the answers to epoch lines.
use Rattle.std.proofs.Common.{◌≡◌, ℕ, ◌<◌, ◌≤◌, List, [], ◌∷◌, length, take, refl, append-nil, arith, length-take, lt-ltb, take_all}
use Rattle.policy.specs.declared.mode.Mode.{Mode}
use Rattle.epoch_line.specs.Epoch.{read_epoch, epoch_limit}
use Rattle.lined.specs.Lines.{last_line, cut_to}
use Rattle.policy.specs.Set.{EventSet}
use Rattle.monitor.specs.Decision.{decision_in, advanced}
use Rattle.report.specs.Report.{next_number}
use Rattle.session.specs.Printed.{decision_line, epoch_lines}

module _ (mode : Mode) (image : List ℕ) where
  -- the open line at the end
  pub last_none : (pending : EventSet) (n : ℕ) (line : List ℕ) → length line ≤ 0 → epoch_lines mode image pending n (last_line line) ≡ []
  unfolding epoch_lines
  last_none pending n line h = grind arith

  pub last_some : (pending : EventSet) (n : ℕ) (line : List ℕ) → 0 < length line → epoch_lines mode image pending n (last_line line) ≡ decision_line (next_number n) (decision_in mode image pending line)
  unfolding epoch_lines advanced
  last_some pending n line h = grind (arith, append-nil)

  -- ---- no more of a line counts than tells that it is too long

  module _ (most : ℕ) (enough : epoch_limit < most) where
    cut_decision : (pending : EventSet) (line : List ℕ) → advanced mode image pending (take most line) ≡ advanced mode image pending line
    unfolding advanced decision_in read_epoch
    cut_decision pending line = grind (arith, take_all, length-take, lt-ltb)

    pub cut_epochs : (pending : EventSet) (n : ℕ) (lines : List (List ℕ)) → epoch_lines mode image pending n (cut_to most lines) ≡ epoch_lines mode image pending n lines
    unfolding epoch_lines
    cut_epochs pending n [] = refl
    cut_epochs pending n (line ∷ lines) = grind (arith, cut_decision pending line, cut_epochs (advanced mode image pending line).pending (next_number n) lines)
