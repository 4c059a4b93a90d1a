-- What the engine prints from one of its lines on: `done` is held of the text, or n epochs were decided on an image, and
-- these events are pending.
use Rattle.std.specs.Prelude.{◌≡◌, ℕ, List, [], ◌++◌, refl, take, Option, Some, None}
use Rattle.policy.specs.declared.mode.Mode.{Mode}
use Rattle.lined.specs.Lines.{last_line}
use Rattle.policy.specs.Set.{EventSet, no_events}
use Rattle.monitor.specs.Decision.{decision_in}
use Rattle.report.specs.Report.{next_number}
use Rattle.session.specs.Printed.{Session, text_only, with_epochs, mode_of, split_at_run, ended, decision_line, epoch_lines, printed_for}
use Rattle.session.specs.declared.engine.Phase.{Phase}

-- ---- in the text

-- what follows lines that have ended: an open line at the end of the input, or maybe more
abbrev pub following : Option (List ℕ) → List (List ℕ)
following None = []
following (Some last) = last_line last

-- before the end nothing is due for a text that goes on
abbrev pub told_with : List ℕ → List (List ℕ) → Option (List ℕ) → Session → List ℕ
told_with done lines next (with_epochs text mode epochs) = printed_for (done ++ ended text) (with_epochs text mode epochs)
told_with done lines None text_only = []
told_with done lines (Some last) text_only = printed_for (done ++ (ended lines ++ last)) text_only

abbrev pub told_text : List ℕ → List (List ℕ) → Option (List ℕ) → List ℕ
told_text done lines next = told_with done lines next (split_at_run (lines ++ following next))

abbrev pub printed_text : List ℕ → List (List ℕ) → List ℕ → List ℕ
printed_text done lines last = told_text done lines (Some last)

abbrev pub given_text : List ℕ → List (List ℕ) → List ℕ
given_text done lines = told_text done lines None

abbrev pub says_at : List ℕ → Option Mode → List ℕ
says_at done None = []
says_at done (Some mode) = printed_for done text_only

-- what became of a complete text: it is refused whatever follows, or its image has so many bytes, and epochs are decided on it
abbrev pub TextEnds : (text image : List ℕ) → Option ℕ → Type 0
TextEnds text image None = (s : Session) → printed_for text s ≡ printed_for text text_only
TextEnds text image (Some size) =
    (printed_for text text_only ≡ []) × ((mode : Mode) (epochs : List (List ℕ)) → printed_for text (with_epochs [] mode epochs) ≡ epoch_lines mode (take size image) no_events 0 epochs)

-- ---- in each phase

abbrev pub says_in : Phase → (done image : List ℕ) → EventSet → ℕ → List ℕ → List ℕ
says_in Phase.Text done image pending n line = says_at done (mode_of line)
says_in (Phase.Epochs mode) done image pending n line = decision_line (next_number n) (decision_in mode image pending line)
says_in Phase.Over done image pending n line = []

abbrev pub told_in : Phase → (done image : List ℕ) → EventSet → ℕ → List (List ℕ) → Option (List ℕ) → List ℕ
told_in Phase.Text done image pending n lines next = told_text done lines next
told_in (Phase.Epochs mode) done image pending n lines next = epoch_lines mode image pending n (lines ++ following next)
told_in Phase.Over done image pending n lines next = []

pub told_none : (p : Phase) (done image : List ℕ) (pending : EventSet) (n : ℕ) → told_in p done image pending n [] None ≡ []
unfolding split_at_run epoch_lines
told_none Phase.Text done image pending n = refl
told_none (Phase.Epochs mode) done image pending n = refl
told_none Phase.Over done image pending n = refl
