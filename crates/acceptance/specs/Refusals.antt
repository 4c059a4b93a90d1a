-- Which faults a text and an epoch line have, and at which locations.
use Rattle.std.specs.Prelude.{ℕ, ◌≤◌, true, List, [], ◌∷◌, ◌≡◌, length, nat_eq, Some, Err}
use Rattle.policy.specs.Fault.{fault_number, refusal, within}
use Rattle.std.specs.List.{list_any}
use Rattle.policy.specs.declared.fault.Fault.{Fault}
use Rattle.policy.specs.Policy.{Policy}
use Rattle.policy.specs.declared.fault.Refusal.{Refusal}
use Rattle.policy.specs.declared.fault.Source.{Source}
use Rattle.lexer.specs.Lines.{lines_of}
use Rattle.rule_text.specs.Text.{read_text, policy_of}

-- 1, at no line, or one of 2 to 6 at a line of the text, counted from 1; the place says which text it is
pub data OfText (source : Source) (text : List ℕ) : Refusal → Type 0 where
  too_long : OfText source text (within source (refusal Fault.TooLong 0))
  in_line_is : (f : Fault) (n : ℕ) → 2 ≤ fault_number f → fault_number f ≤ 6 → 1 ≤ n → n ≤ length (lines_of text) → OfText source text (within source (refusal f n))

-- of two texts, one of the maker's, or, where the maker's text is accepted alone, one of the site's
pub data OfTexts (form : ℕ) (maker site : List ℕ) (r : Refusal) : Type 0 where
  of_maker : read_text form maker ≡ Err r → OfText Source.Maker maker r → OfTexts form maker site r
  of_site : (p : Policy) → policy_of form maker ≡ Some p → OfText Source.Site site r → OfTexts form maker site r

-- 1, 12, 13 or 14, at no line and in no text
pub record OfEpoch (r : Refusal) : Type 0 where
  pub number : list_any (nat_eq (fault_number r.fault)) (1 ∷ 12 ∷ 13 ∷ 14 ∷ []) ≡ true
  pub source : r.source ≡ Source.Neither
  pub location : r.location ≡ 0
