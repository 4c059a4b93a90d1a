use Rattle.std.proofs.Common.{◌≡◌, ◌<◌, ℕ, [], ◌++◌, length, take, refl, ap, ◌∙◌, append-nil, arith, rules}
use Rattle.std.proofs.lemmas.Result.{err_from_is_err_and}
use Rattle.stream.specs.declared.failure.Failure.TheVariants.{Read}
use Rattle.stream.specs.Event.{came}
use Rattle.stream.proofs.EventLaws.{go_on_append, go_on_event, stops_behind, fails_behind}
use Rattle.stream.proofs.FrontLaws.{cut_before}
use Rattle.stream.proofs.KnownLaws.{reads_end, reads_trans}
use Rattle.stream.proofs.whole.read_front.Goals as goal

pub loop-turn-init : goal.loop-turn-init
loop-turn-init g c = record { within = omega arith; moved = ([], search (rules, arith), search rules) }

pub loop-turn-preserved : goal.loop-turn-preserved
loop-turn-preserved g c =
    let (bytes, read, kept) = c.loop-turn.invariant.moved in
    let chunk = take c.in_ok-count.count c.read_some.new.buffer in
    let some : 0 < length chunk = omega (arith, c.in_ok-count.ensures.bound.1) in
    let room = length c.loop-turn.front in
    let same : room ≡ length c.keep-size.new.front = omega arith in
    record {
      within = c.keep-size.ensures.within;
      moved = (
        bytes ++ chunk,
        reads_trans (λ es fs p q. go_on_append c.loop-turn._turn 1 _ es fs (omega arith) p (go_on_event (came chunk) fs q some)) refl read c.in_ok-count.ensures.ok,
        c.keep-size.ensures.value ∙ ap (λ l. take room (l ++ chunk)) kept ∙ cut_before room bytes chunk
            ∙ ap (λ (n : ℕ). take n (bytes ++ chunk)) same,
      );
    }

pub returns-then-count-eq0-clause-ok : goal.returns-then-count-eq0-clause-ok
returns-then-count-eq0-clause-ok g c =
    let (bytes, read, kept) = c.loop-turn.invariant.moved in
    let none = c.if-count-eq0.true in
    let same : length c.loop-turn.front ≡ length c.args.front.now = omega arith in (
      bytes,
      reads_trans (λ es fs p q. stops_behind (came []) es fs p.0 q) (append-nil bytes) read (reads_end _ _ none c.in_ok-count.ensures.ok),
      c.in_ok-count.ensures.end none (omega arith),
      kept ∙ ap (λ (n : ℕ). take n bytes) same,
    )

pub returns-in_err-count-clause-err : goal.returns-in_err-count-clause-err
returns-in_err-count-clause-err g c =
    let (bytes, read, kept) = c.loop-turn.invariant.moved in
    let e = c.in_err-count.field-0.0 in
    let p = err_from_is_err_and c.from_residual.result c.from_residual.ensures.1 in
    rw (p.1, p.2) (bytes, reads_trans (λ es fs p q. fails_behind (Read e) es fs p.0 q) (append-nil bytes) read c.in_err-count.ensures.err)
