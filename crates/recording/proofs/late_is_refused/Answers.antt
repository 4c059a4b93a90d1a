use Rattle.std.proofs.Common.{◌∷◌, [], refl, sym, ◌∙◌, append-nil}
use Rattle.stream.specs.Event.{came}
use Rattle.recording.proofs.late_is_refused.Goals as goal

-- a second read before what came has gone
pub returns : goal.returns
returns c = λ input first second calls some e. some (sym (append-nil first) ∙ sym (e.prompt (came first ∷ []) (came second) calls refl tt))
