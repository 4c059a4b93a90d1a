use Rattle.std.proofs.Common.{arith, ap, sym, ◌∙◌}
use Rattle.policy.specs.Fault.{in_text}
use Rattle.policy.specs.declared.fault.Source.{Source}
use Rattle.rule_text.proofs.TextLaws.{put_in_text, site_counts}
use Rattle.rule_text.proofs.read_texts.Goals as goal

pub returns : goal.returns
returns c =
    put_in_text Source.Site c.read_behind.result _ (λ x e. grind arith) (λ x e. grind arith) ∙ ap (in_text Source.Site) c.read_behind.ensures
    ∙ site_counts _ _ _ _ (sym c.read_text.ensures ∙ c.in_ok-counts.was)
