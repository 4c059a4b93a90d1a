use Rattle.std.proofs.Common.{append-nil, arith}
use Rattle.session.proofs.Whole.{listing_whole}
use Rattle.session.proofs.compiler.CompilerSummary.finish.Goals as goal

pub returns : goal.returns
returns c = grind (arith, listing_whole, append-nil)
