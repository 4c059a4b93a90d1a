use Rattle.std.proofs.Common.{◌≡◌, ℕ, ◌≤◌, List, length, take, arith, rules}
use Rattle.output.proofs.AppendLaws.{Put}
use Rattle.stream.specs.declared.failure.Failure.{Failure}
use Rattle.stream.specs.Event.{GoOn, Fails}
use Rattle.stream.specs.Inputs.{BothRead}
use Rattle.stream.specs.Machine.{Known, Sends}
use Rattle.session.specs.Listed.{listed_texts}
use Rattle.session.specs.Steps.Sizes.{listing_size, text_held}
use Rattle.session.proofs.Whole.{texts_listing_whole, texts_listing_cut}
use Rattle.session.proofs.compiler.list_texts.Goals as goal

-- what holds of the listing of the first bytes of both texts holds of that of both
of_both : {a b c d : Known} (maker site out after : List ℕ) (end : ℕ) (P : List ℕ → Type 0) → Put out 0 (listed_texts maker site) after end → listing_size ≤ length out
    → BothRead a b c d (λ first second. (maker ≡ take text_held first) × (site ≡ take text_held second)) → P (take end after)
    → BothRead a b c d (λ first second. P (listed_texts first second))
of_both maker site out after end P put room (first, second, read, read', kept) holds = grind (arith, texts_listing_whole, texts_listing_cut)

pub returns-in-Ok-write_whole-clause-ok : goal.returns-in-Ok-write_whole-clause-ok
returns-in-Ok-write_whole-clause-ok g c =
    let put = c.put_texts_listing-end.ensures in
    of_both _ _ _ _ _ (Sends (GoOn 0) _ _) (put.answer, put.buffer) (search (rules, arith)) c.in-Ok.ensures.ok c.in-Ok-write_whole.ensures.ok

pub returns-in-Err-clause-err : goal.returns-in-Err-clause-err
returns-in-Err-clause-err g c =
    let put = c.put_texts_listing-end.ensures in
    let old = g.E.Ends.known c.args.ends.now in
    let new = g.E.Ends.known c.write_whole.new.ends in
    of_both _ _ _ _ _ (λ l. (n : ℕ) × Sends (Fails (Failure.Write c.in-Err.e)) old new (take n l)) (put.answer, put.buffer) (search (rules, arith)) c.in-Ok.ensures.ok c.in-Err.ensures.err
