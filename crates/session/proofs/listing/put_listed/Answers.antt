use Rattle.std.proofs.Common.{refl, arith, sym, ◌∙◌}
use Rattle.codegen.proofs.AcceptedLaws.{newest_known}
use Rattle.codegen.proofs.RoomLaws.{compiled_refusal, compiled_read}
use Rattle.codegen.specs.Compile.{newest_form}
use Rattle.session.specs.Listed.{listing_of, listed}
use Rattle.session.proofs.listing.put_listed.Goals as goal

pub returns-in-Err : goal.returns-in-Err
unfolding listed listing_of
returns-in-Err g c = rw (compiled_refusal newest_form newest_known c.args.text.now _ refl c.in-Err.refusal (sym c.compile.ensures.answer ∙ c.in-Err.is)) c.put_refusal.ensures

pub returns-in-Ok : goal.returns-in-Ok
unfolding listed listing_of
returns-in-Ok g c =
    let read = compiled_read newest_form newest_known c.args.text.now _ refl c.in-Ok.size (sym c.compile.ensures.answer ∙ c.in-Ok.is) in
    grind (arith, read)
