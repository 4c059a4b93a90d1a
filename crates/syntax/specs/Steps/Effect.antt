-- What stands in front of a text, read as the effect of a rule: the effect, none where its number is out of range, and what stands behind
-- it.
use Rattle.std.specs.Prelude.{ℕ, List, Option, Some, None, option_map, if◌then◌else◌}
use Rattle.policy.specs.Limits.{effect_in_range, ending_allowed}
use Rattle.policy.specs.declared.effect.Effect.{Effect}
use Rattle.policy.specs.declared.line.Ending.{Ending}
use Rattle.lexer.specs.Steps.Scan.{token_in, behind_token}
use Rattle.lexer.specs.Token.{Token, action_of, event_of}
use Rattle.token.specs.Steps.PartIn.{kept_before, part_in, next_token}
use Rattle.syntax.specs.Grammar.{effect_from}

unfoldable pub causes_in : List ℕ → Option (Option Effect × List ℕ)
causes_in text = part_in effect_in_range (λ (t : Token). option_map Effect.Causes (action_of t)) text

unfoldable pub triggers_in : List ℕ → Option (Option Effect × List ℕ)
triggers_in text = part_in effect_in_range (λ (t : Token). option_map Effect.Triggers (event_of t)) text

-- an effect that the form has
abbrev pub effect_for : ℕ → Option Effect → Option Effect
effect_for form None = None
effect_for form (Some x) = if ending_allowed form (Ending.Yields x) then Some x else None

unfoldable pub effect_in : ℕ → List ℕ → Option (Option Effect × List ℕ)
effect_in form text =
    option_map (kept_before effect_in_range (behind_token (next_token text))) (effect_for form (effect_from (token_in text) (token_in (next_token text))))
