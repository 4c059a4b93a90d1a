use Rattle.std.proofs.Common.{arith}
use Rattle.std.proofs.lemmas.Bool.Decides.{nat_tests}
use Rattle.output.proofs.AppendLaws.{append_start}
use Rattle.decompile.proofs.TextLaws.{taken_text}
use Rattle.decompile.specs.Decompile.{output_of, decompiled}
use Rattle.decompile.proofs.decompile.Goals as goal

pub fits-requires : goal.fits-requires
fits-requires c = (taken_text _ _ c.in_ok-image.ensures).short

pub returns-then-not-fits : goal.returns-then-not-fits
unfolding decompiled output_of
returns-then-not-fits c = grind (arith, nat_tests, taken_text _ _ c.in_ok-image.ensures)

pub returns : goal.returns
unfolding decompiled output_of
returns c = grind (arith, nat_tests, taken_text _ _ c.in_ok-image.ensures, append_start c.args.out.now)
