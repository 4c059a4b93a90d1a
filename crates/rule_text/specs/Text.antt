-- What a rule text is refused for (faults 1 to 6), and the policy that an accepted text has; and the same of a maker's and a site's text
-- as one.
use Rattle.std.specs.Prelude.{ℕ, suc, Bool, if◌then◌else◌, nat_lt, length, List, [], ◌∷◌, ◌++◌, Option, Some, None, Result, Ok, Err}
use Rattle.std.specs.Result.{result_ok}
use Rattle.policy.specs.Fault.{refusal, located, in_text}
use Rattle.policy.specs.Limits.{line_limit}
use Rattle.policy.specs.Line.{PolicyLine, rule, constraint, line_part, line_count}
use Rattle.policy.specs.Policy.{Policy}
use Rattle.policy.specs.Result.{result_and_then}
use Rattle.policy.specs.declared.fault.Fault.{Fault}
use Rattle.policy.specs.declared.fault.Refusal.{Refusal}
use Rattle.policy.specs.declared.fault.Source.{Source}
use Rattle.syntax.specs.Judge.{line_answer}
use Rattle.lexer.specs.Lines.{lines_of}

-- whether a policy may have one line more of a line's kind, and the policy with it, the last of its kind
abbrev pub has_room : Policy → PolicyLine → Bool
has_room p l = nat_lt (line_count p (line_part l)) (line_limit (line_part l))

unfoldable pub with_line : Policy → PolicyLine → Policy
with_line p (rule r) = record { rules = p.rules ++ r ∷ []; constraints = p.constraints }
with_line p (constraint c) = record { rules = p.rules; constraints = p.constraints ++ c ∷ [] }

-- a skipped line adds nothing
unfoldable pub with_any_line : Policy → Option PolicyLine → Result Policy Fault
with_any_line p None = Ok p
with_any_line p (Some l) = if has_room p l then Ok (with_line p l) else Err Fault.TooManyLines

abbrev pub empty_policy : Policy
empty_policy = record { rules = []; constraints = [] }

abbrev pub text_limit : ℕ
text_limit = 32768

-- ---- texts for images of a form

module _ (form : ℕ) where
  -- a line behind those of a policy
  unfoldable pub read_line : Policy → List ℕ → Result Policy Fault
  read_line p line = result_and_then (with_any_line p) (line_answer form line)

  -- lines, the first of which has this number
  unfoldable pub read_lines : ℕ → Policy → List (List ℕ) → Result Policy Refusal
  read_lines n p [] = Ok p
  read_lines n p (line ∷ lines) = result_and_then (λ (q : Policy). read_lines (suc n) q lines) (located n (read_line p line))

  -- the lines of a text behind a policy: a text over its length is refused at no line; otherwise lines are counted from 1, skipped ones
  -- too
  unfoldable pub read_text_behind : Policy → List ℕ → Result Policy Refusal
  read_text_behind p text = if nat_lt text_limit (length text) then Err (refusal Fault.TooLong 0) else read_lines 1 p (lines_of text)

  -- a single text is the maker's; a location also says which text it is in
  unfoldable pub read_text : List ℕ → Result Policy Refusal
  read_text text = in_text Source.Maker (read_text_behind empty_policy text)

  -- two texts as one: the maker's lines before the site's in each part, line limits counted together, lengths apart
  unfoldable pub read_texts : List ℕ → List ℕ → Result Policy Refusal
  read_texts maker site = result_and_then (λ (p : Policy). in_text Source.Site (read_text_behind p site)) (read_text maker)

  -- ---- the policy

  -- of an accepted text
  abbrev pub policy_of : List ℕ → Option Policy
  policy_of text = result_ok (read_text text)

  -- of two accepted texts
  abbrev pub policy_of_texts : List ℕ → List ℕ → Option Policy
  policy_of_texts maker site = result_ok (read_texts maker site)
