use Rattle.std.proofs.Common.{refl, arith, sym, ◌∙◌}
use Rattle.codegen.proofs.AcceptedLaws.{newest_known}
use Rattle.codegen.proofs.RoomLaws.{texts_refusal, texts_read_is}
use Rattle.codegen.specs.Compile.{newest_form}
use Rattle.session.specs.Listed.{listing_of, listed_texts}
use Rattle.session.proofs.listing.put_texts_listed.Goals as goal

pub returns-in-Err : goal.returns-in-Err
unfolding listed_texts listing_of
returns-in-Err g c =
    rw (texts_refusal newest_form newest_known c.args.maker.now c.args.site.now _ refl c.in-Err.refusal (sym c.compile_texts.ensures.answer ∙ c.in-Err.is)) c.put_texts_refusal.ensures

pub returns-in-Ok : goal.returns-in-Ok
unfolding listed_texts listing_of
returns-in-Ok g c =
    let read = texts_read_is newest_form newest_known c.args.maker.now c.args.site.now _ refl c.in-Ok.size (sym c.compile_texts.ensures.answer ∙ c.in-Ok.is) in
    grind (arith, read)
