use Rattle.std.proofs.Common.{true, ◌≡◌, length}
use Rattle.std.specs.List.{list_all}
use Rattle.lexer.specs.Byte.{bytes_equal}
use Rattle.lexer.specs.Steps.Scan.{in_token, token_in, behind_token}
use Rattle.lexer.proofs.scan.keyword.Given as goal

abbrev pub invariant-loop-left : goal.invariant-loop-left
invariant-loop-left l = record {
  same : bytes_equal (token_in l.rest) l.left ≡ bytes_equal (token_in l.text) l.keyword;
  behind : behind_token l.rest ≡ behind_token l.text;
  inside : list_all in_token l.left ≡ true;
}

abbrev pub decreases-loop-left : goal.decreases-loop-left
decreases-loop-left l = length l.left
