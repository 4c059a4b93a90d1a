use Rattle.std.proofs.Common.{ℕ, [], ◌∷◌, ◌++◌, take, refl, ap, sym, ◌∙◌, arith, Some, None}
use Rattle.monitor.specs.Decision.{advanced}
use Rattle.monitor.specs.declared.state.Decided.{Decided}
use Rattle.session.specs.Printed.{epoch_lines}
use Rattle.session.proofs.LengthLaws.{decision_short}
use Rattle.session.proofs.PhaseLaws.{kept_goes, refused_goes, accepted_goes}
use Rattle.session.proofs.engine.EngineLineMachine.line.Goals as goal

pub returns-in-None-clause-goes : goal.returns-in-None-clause-goes
returns-in-None-clause-goes g c =
    let s = c.args.self.now in
    let none = sym c.pick_mode.ensures ∙ c.in-None.is in
    let kept = c.keep_line-self.ensures.kept ∙ ap (λ (k : ℕ). take k (take s.count s.text ++ (c.args.line.now ++ 10 ∷ []))) s.text_long in
    let goes = kept_goes (take s.count s.text) c.args.line.now _ none kept in
    rw (c.in-Text.is, none) (record { at_once = λ rest. goes rest None; in_all = λ rest last. goes rest (Some last) })

pub returns-in-None-end_text-clause-goes : goal.returns-in-None-end_text-clause-goes
returns-in-None-end_text-clause-goes g c = grind (arith, refused_goes)

pub returns-in-Some-end_text-clause-goes : goal.returns-in-Some-end_text-clause-goes
returns-in-Some-end_text-clause-goes g c = grind (arith, accepted_goes)

pub returns-in-Epochs-clause-puts : goal.returns-in-Epochs-clause-puts
unfolding advanced
returns-in-Epochs-clause-puts g c = rw c.in-Epochs.is (grind arith)

pub returns-in-Epochs-clause-short : goal.returns-in-Epochs-clause-short
returns-in-Epochs-clause-short g c = rw c.in-Epochs.is (decision_short _ _ _ _ _ (omega arith))

pub returns-in-Epochs-clause-goes : goal.returns-in-Epochs-clause-goes
unfolding epoch_lines advanced
returns-in-Epochs-clause-goes g c = rw (c.in-Epochs.is, ap (λ (d : Decided). d.pending) c.step-decision.ensures) (record { at_once = λ rest. refl; in_all = λ rest last. refl })
