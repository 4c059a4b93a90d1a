use Rattle.std.proofs.Common.{[], take, refl, append-nil, inl, arith, rules}
use Rattle.std.proofs.KnownBytes.{Consumes-nil, Consumes-kept}
use Rattle.stream.specs.Event.{came, read_failed}
use Rattle.stream.proofs.EventLaws.{go_on_append, go_on_event, stops_behind}
use Rattle.stream.proofs.KnownLaws.{reads_call, reads_trans}
use Rattle.stream.proofs.transfer.read_some.Goals as goal

pub loop-turn-preserved : goal.loop-turn-preserved
loop-turn-preserved g c =
    let event = read_failed c.in-Err.e in
    let told = c.in-Err.ensures in
    reads_trans (λ es fs p q. go_on_append c.loop-turn._turn 1 _ es fs (omega arith) p (go_on_event event fs q (search rules))) refl c.loop-turn.invariant
    (reads_call event [] tt refl (Consumes-kept _ _ _ [] (Consumes-nil _) told.bytes) told.held told.history)

pub returns-in-Ok-clause-ok : goal.returns-in-Ok-clause-ok
returns-in-Ok-clause-ok g c =
    let chunk = take c.in-Ok.n c.read.new.buffer in
    let told = c.in-Ok.ensures in
    reads_trans (λ es fs p q. stops_behind (came chunk) es fs p.0 q) refl c.loop-turn.invariant
    (reads_call (came chunk) chunk tt (append-nil chunk) told.bytes.0 told.held told.history)

pub returns-then-ne-clause-err : goal.returns-then-ne-clause-err
returns-then-ne-clause-err g c =
    let event = read_failed c.in-Err.e in
    let told = c.in-Err.ensures in
    reads_trans (λ es fs p q. inl (event, (refl, search rules), stops_behind event es fs p.0 q)) refl c.loop-turn.invariant
    (reads_call event [] tt refl (Consumes-kept _ _ _ [] (Consumes-nil _) told.bytes) told.held told.history)
