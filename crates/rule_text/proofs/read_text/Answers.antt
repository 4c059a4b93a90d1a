use Rattle.std.proofs.Common.{arith, ap, ◌∙◌}
use Rattle.policy.specs.Fault.{in_text}
use Rattle.policy.specs.declared.fault.Source.{Source}
use Rattle.rule_text.proofs.TextLaws.{put_in_text, text_counts}
use Rattle.rule_text.proofs.read_text.Goals as goal

pub returns : goal.returns
returns c = put_in_text Source.Maker c.read_behind.result _ (λ x e. grind arith) (λ x e. grind arith) ∙ ap (in_text Source.Maker) c.read_behind.ensures ∙ text_counts _ _
