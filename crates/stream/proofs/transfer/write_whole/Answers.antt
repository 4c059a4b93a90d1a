use Rattle.std.proofs.Common.{◌≡◌, ℕ, ◌+◌, ◌-◌, ◌<◌, ◌≤◌, List, [], ◌++◌, length, take, drop, refl, sym, ap, ◌∙◌, arith, append-nil, take-add, inl, rules, length-drop, length-take-le}
use Rattle.std.proofs.KnownBytes.{Appends-nil, Appends-kept}
use Rattle.std.proofs.lemmas.List.{take_rest}
use Rattle.stream.specs.Event.{went, write_failed}
use Rattle.stream.proofs.EventLaws.{go_on_append, go_on_event, stops_behind}
use Rattle.stream.proofs.KnownLaws.{sends_call, sends_trans}
use Rattle.stream.proofs.transfer.write_whole.Goals as goal
use Rattle.stream.proofs.transfer.write_whole.Goals.{in-Ok, in-Err+else-ne}

-- a write takes n of the bytes behind `done`
taken : (done n : ℕ) (xs : List ℕ) → take done xs ++ take n (take (length xs - done) (drop done xs)) ≡ take (done + n) xs
taken done n xs = ap (λ l. take done xs ++ take n l) (take_rest xs done) ∙ sym (take-add done n xs)

pub loop-turn-init : goal.loop-turn-init
loop-turn-init g c = record { some = λ h. absurd (omega (arith, h)); within = omega arith; sent = search (rules, arith) }

pub loop-turn-preserved : goal.loop-turn-preserved
loop-turn-preserved g c =
    let xs = c.args.bytes.now in
    let done = c.loop-turn.done in
    let within = c.loop-turn.invariant.within in
    let rest = take (length xs - done) (drop done xs) in
    elim c.match-write.branch [
      | in-Ok w ↦
          let n = w.in-Ok.n in
          let long : n ≤ length rest = w.in-Ok.ensures.bound in
          let some : 0 < length (take n rest) = omega (arith, length-take-le n rest long, w.in-Ok.n-test.1) in
          rw w.done-is (record {
            some = λ h. omega (arith, within);
            within = omega (arith, ap length (take_rest xs done), length-drop done xs);
            sent = sends_trans (λ es fs p q. go_on_append c.loop-turn._turn 1 _ es fs (omega arith) p (go_on_event (went (take n rest)) fs q some)) (taken done n xs) c.loop-turn.invariant.sent
                (sends_call (went (take n rest)) _ tt (append-nil _) w.in-Ok.ensures.bytes w.in-Ok.ensures.unread w.in-Ok.ensures.history);
          })
      | in-Err+else-ne w ↦
          let event = write_failed w.in-Err.e in
          rw w.done-is (record {
            some = λ h. omega (arith, within);
            within = within;
            sent = sends_trans (λ es fs p q. go_on_append c.loop-turn._turn 1 _ es fs (omega arith) p (go_on_event event fs q (grind arith))) (append-nil _) c.loop-turn.invariant.sent
                (sends_call event [] tt refl (Appends-kept _ _ _ [] (Appends-nil _) w.in-Err.ensures.bytes) w.in-Err.ensures.unread w.in-Err.ensures.history);
          })
    ]

pub returns-in-Ok-eq0-clause-err : goal.returns-in-Ok-eq0-clause-err
returns-in-Ok-eq0-clause-err g c =
    let told = c.in-Ok-eq0.ensures in
    let event = went (take c.in-Ok-eq0.field-0 (take (length c.args.bytes.now - c.loop-turn.done) (drop c.loop-turn.done c.args.bytes.now))) in (
      c.loop-turn.done + c.in-Ok-eq0.field-0,
      sends_trans (λ es fs p q. inl (event, rw c.in-Ok-eq0.field-0-test c.from.ensures, stops_behind event es fs p.0 q)) (taken c.loop-turn.done c.in-Ok-eq0.field-0 c.args.bytes.now) c.loop-turn.invariant.sent
          (sends_call event _ tt (append-nil _) told.bytes told.unread told.history),
    )

pub returns-then-ne-clause-err : goal.returns-then-ne-clause-err
returns-then-ne-clause-err g c =
    let told = c.in-Err.ensures in
    let event = write_failed c.in-Err.e in (
      c.loop-turn.done,
      sends_trans (λ es fs p q. inl (event, (refl, grind arith), stops_behind event es fs p.0 q)) (append-nil _) c.loop-turn.invariant.sent
          (sends_call event [] tt refl (Appends-kept _ _ _ [] (Appends-nil _) told.bytes) told.unread told.history),
    )
