use Rattle.std.proofs.Common.{[], ◌∷◌, ◌++◌, map, ap, ◌∙◌}
use Rattle.std.proofs.lemmas.List.{take_more_set, map-append}
use Rattle.recording.specs.Recording.{calls_of, call_event, event_of}
use Rattle.recording.proofs.KeepLaws.{kept_few, kept_first}
use Rattle.recording.proofs.tape.Log.push.Goals as goal

pub returns-clause-count : goal.returns-clause-count
returns-clause-count c = let kept = c.keep-count.ensures in kept_few _ 4 _ c.args.bytes.now kept.within kept.value

pub returns-clause-calls : goal.returns-clause-calls
returns-clause-calls c =
    let kept = c.keep-count.ensures in
    ap (map event_of) (take_more_set _ _ _ c.requires) ∙ map-append event_of _ _
    ∙ ap (λ l. calls_of c.args.self.now ++ call_event c.args.read l ∷ []) (kept_first _ 4 _ c.args.bytes.now kept.within kept.value)
