-- What a call adds to what went out, and what a conversation with an echo leaves of a tape.
use Rattle.std.proofs.Common.{◌≡◌, ℕ, List, [], ◌∷◌, ◌++◌, take, drop, sym, ap, ◌∙◌, append-nil}
use Rattle.stream.specs.Event.{Event, came, went, came_in, went_out}
use Rattle.stream.specs.Machine.{AnswersAll}
use Rattle.stream.proofs.EventLaws.{went_out_append}
use Rattle.recording.specs.Echo.{echoed_of}
use Rattle.recording.specs.Recording.{calls_of, known_of, Echoed}
use Rattle.recording.specs.declared.echo.Echo.{Echo}
use Rattle.recording.specs.declared.tape.Tape.{Tape}

pub read_keeps : (old new : List Event) (bytes : List ℕ) → new ≡ old ++ came bytes ∷ [] → went_out new ≡ went_out old
read_keeps old new bytes e = ap went_out e ∙ went_out_append old (came bytes ∷ []) ∙ append-nil (went_out old)

pub write_adds : (old new : List Event) (bytes : List ℕ) → new ≡ old ++ went bytes ∷ [] → went_out new ≡ went_out old ++ bytes
write_adds old new bytes e = ap went_out e ∙ went_out_append old (went bytes ∷ []) ∙ ap (λ l. went_out old ++ l) (append-nil bytes)

module _ (echo : Echo) (none : echo.used ≡ 0) where
  echoes : (bytes : List ℕ) → echoed_of echo bytes ≡ bytes
  echoes bytes = ap (λ (n : ℕ). take n echo.out ++ bytes) none

  pub echoed : (old new : Tape) → calls_of old.log ≡ [] → AnswersAll (echoed_of echo) (echoed_of echo) (known_of old) (known_of new)
      → Echoed (drop old.at old.input) (calls_of new.log)
  echoed old new fresh all =
      let same : calls_of new.log ≡ all.events = all.logged ∙ ap (λ (l : List Event). l ++ all.events) fresh in
      record {
        came = ap came_in same ∙ all.came ∙ sym all.whole;
        went = ap went_out same ∙ all.went ∙ echoes all.bytes ∙ sym all.whole;
        prompt = λ before call after split read. all.prompt before call after (sym same ∙ split) read ∙ echoes (came_in before);
      }
