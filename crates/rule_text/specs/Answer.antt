-- What `read_text` and `read_texts` answer for every text, by `Text`: the refusal with its location, or the counts of what was read.
use Rattle.std.specs.Prelude.{ℕ, ◌+◌, List, [], ◌∷◌, map, length, Result}
use Rattle.std.specs.Result.{result_map_both}
use Rattle.policy.specs.Line.{PolicyLine, rule, constraint, heads_of, comparisons_of, constant_count}
use Rattle.policy.specs.Policy.{Policy}
use Rattle.policy.specs.declared.fault.Refusal.{Refusal}
use Rattle.policy.specs.declared.line.PerPart.{PerPart}
use Rattle.rule_text.specs.Text.{read_text, read_texts}
use Rattle.rule_text.specs.declared.LineCounts.{LineCounts}

unfoldable pub total : (PolicyLine → ℕ) → List PolicyLine → ℕ
total count [] = 0
total count (l ∷ ls) = count l + total count ls

-- how many lines there are, and how many literals or actions, comparisons, and constants among these they have
unfoldable pub counts_in : List PolicyLine → LineCounts
counts_in ls =
    record {
      lines = length ls;
      heads = total (λ (l : PolicyLine). length (heads_of l)) ls;
      comparisons = total (λ (l : PolicyLine). length (comparisons_of l)) ls;
      constants = total (λ (l : PolicyLine). constant_count (comparisons_of l)) ls;
    }

unfoldable pub counts_of : Policy → PerPart LineCounts
counts_of p = record { rules = counts_in (map rule p.rules); constraints = counts_in (map constraint p.constraints) }

-- the counts in place of the policy
abbrev pub counted : Result Policy Refusal → Result (PerPart LineCounts) Refusal
counted read = result_map_both counts_of (λ refusal. refusal) read

unfoldable pub text_read : (form : ℕ) → List ℕ → Result (PerPart LineCounts) Refusal
text_read form text = counted (read_text form text)

unfoldable pub texts_read : (form : ℕ) → (maker site : List ℕ) → Result (PerPart LineCounts) Refusal
texts_read form maker site = counted (read_texts form maker site)
