use Rattle.std.proofs.Common.{map, ◌≡◌, drop}
use Rattle.policy.specs.Limits.{test_number}
use Rattle.policy.specs.Steps.Seen.{seen_in}
use Rattle.line_value.proofs.test_list.Tests.has_repeats.Given as goal

abbrev pub invariant-loop-test : goal.invariant-loop-test
invariant-loop-test l = seen_in 0 (map test_number l.test-items) ≡ seen_in l.seen (map test_number (drop l.test-index l.test-items))
