use Rattle.std.proofs.Common.{rules}
use Rattle.lexer.proofs.ClassLaws.{class_right}
use Rattle.lexer.proofs.class.Class.of.Goals as goal

pub returns : goal.returns
returns c = class_right c.args.b _ (search rules)
