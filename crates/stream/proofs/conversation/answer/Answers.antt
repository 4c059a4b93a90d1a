use Rattle.std.proofs.Common.{◌+◌, [], ◌++◌, length, take, refl, ap, append-nil, length-append, arith, rules, length-drop}
use Rattle.std.proofs.lemmas.List.{take_rest}
use Rattle.std.proofs.lemmas.Result.{err_from_is_err_and}
use Rattle.stream.specs.declared.failure.Failure.TheVariants.{Write}
use Rattle.stream.proofs.EventLaws.{go_on_append, fails_behind}
use Rattle.stream.proofs.KnownLaws.{sends_trans}
use Rattle.stream.proofs.MachineLaws.{goes_refl, goes_trans, goes_fed, goes_emptied, starts_fed, starts_some, starts_cut}
use Rattle.stream.proofs.conversation.answer.Goals as goal

pub loop-at-init : goal.loop-at-init
loop-at-init g c = record {
  within = omega arith;
  empty = c.requires;
  moved = ([], goes_refl g.M.Machine.given g.M.Machine.printed _, search (rules, arith));
}

pub loop-at-preserved : goal.loop-at-preserved
loop-at-preserved g c =
    let (text, goes, written) = c.loop-at.invariant.moved in
    let chunk = c.args.chunk.now in
    let given = g.M.Machine.given in
    let printed = g.M.Machine.printed in
    let handed = c.in_ok-hand_out.ensures.goes in
    let fed = goes_fed given printed _ _ _ chunk text c.loop-at.at c.feed-at.result goes c.feed-at.ensures.goes in
    record {
      within = omega (arith, c.feed-at.ensures.within, ap length (take_rest chunk c.loop-at.at), length-drop c.loop-at.at chunk);
      empty = goes_emptied given printed _ _ _ handed;
      moved = (
        text ++ given c.feed-at.new.self [],
        rw append-nil at (goes_trans given printed _ _ _ _ _ _ _ fed handed),
        sends_trans (λ es fs. go_on_append 0 0 0 es fs (omega arith)) refl written c.in_ok-hand_out.ensures.ok,
      );
    }

pub returns-in_err-hand_out : goal.returns-in_err-hand_out
returns-in_err-hand_out g c =
    let given = g.M.Machine.given in
    let printed = g.M.Machine.printed in
    let chunk = c.args.chunk.now in
    let (text, goes, written) = c.loop-at.invariant.moved in
    let (n, cut, due, first) = c.in_err-hand_out.ensures.err in
    let e = c.in_err-hand_out.field-0.0 in
    let fed = goes_fed given printed _ _ _ chunk text c.loop-at.at c.feed-at.result goes c.feed-at.ensures.goes in
    let p = err_from_is_err_and c.from_residual.result c.from_residual.ensures.1 in
    rw (p.1, p.2) (record {
      goes = tt;
      ok = tt;
      empty = tt;
      some = starts_some _ _ (starts_fed given _ _ text chunk _ (c.loop-at.at + c.feed-at.result) fed.at_once due) (omega (arith, length-append text (given c.feed-at.new.self []), c.in_err-hand_out.ensures.some));
      err = (
        text ++ take n (given c.feed-at.new.self []),
        sends_trans (λ es fs p q. fails_behind (Write e) es fs p.0 q) refl written cut,
        starts_fed given _ _ text chunk _ (c.loop-at.at + c.feed-at.result) fed.at_once (λ rest. starts_cut _ _ n (due rest)),
        starts_fed printed _ _ text chunk _ (c.loop-at.at + c.feed-at.result) fed.in_all (λ rest. starts_cut _ _ n (first rest)),
      );
    })
