-- What is known of a tape, and what an echo of its input leaves.
use Rattle.std.specs.Prelude.{◌≡◌, ℕ, Bool, List, ◌∷◌, ◌++◌, take, drop, map, Some, if◌then◌else◌}
use Rattle.stream.specs.Event.{Event, came, went, came_in, went_out, IsRead}
use Rattle.stream.specs.Machine.{Known}
use Rattle.recording.specs.declared.tape.Call.{Call}
use Rattle.recording.specs.declared.tape.Log.{Log}
use Rattle.recording.specs.declared.tape.Tape.{Tape}

abbrev pub call_event : Bool → List ℕ → Event
call_event read bytes = if read then came bytes else went bytes

abbrev pub event_of : Call → Event
event_of call = call_event call.read (take call.count call.bytes)

abbrev pub calls_of : Log → List Event
calls_of log = map event_of (take log.count log.calls)

-- all of it: what is to come, what went, and the calls in their order
abbrev pub known_of : Tape → Known
known_of tape = record { unread = Some (drop tape.at tape.input); held = Some (went_out (calls_of tape.log)); history = Some (calls_of tape.log) }

-- all of the input came and went, and at each read all that had come had gone
pub record Echoed (input : List ℕ) (calls : List Event) : Type 0 where
  pub came : came_in calls ≡ input
  pub went : went_out calls ≡ input
  pub prompt : (before : List Event) (call : Event) (after : List Event) → calls ≡ before ++ call ∷ after → IsRead call
      → went_out before ≡ came_in before
