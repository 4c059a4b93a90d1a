use Rattle.std.proofs.Common.{ap, arith, rules}
use Rattle.policy.specs.Set.{set_of}
use Rattle.word.specs.Chunk.{words_in}
use Rattle.word.proofs.ChunkLaws.{words_in_length}
use Rattle.monitor.specs.Decision.{kept_by, tried_words}
use Rattle.monitor.proofs.FewLaws.{trial_few}
use Rattle.monitor.proofs.TrialLaws.{tried_none, tried_all}
use Rattle.monitor.proofs.waiting.keep_proposed.Goals as goal

pub returns-then-proposed-eq0 : goal.returns-then-proposed-eq0
unfolding kept_by tried_words
returns-then-proposed-eq0 c =
    let all = tried_all (tried_none (search rules) (trial_few (words_in c.args.constraints.now) (omega (arith, words_in_length c.args.constraints.now, c.requires.few)) c.args.readings.now)) c.if-proposed-eq0.true in
    record { actions = ap set_of all.0; words = all.1 }
