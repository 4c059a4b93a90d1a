-- Of a text over its length one byte more than that is enough: a program need not hold more to read it, alone or with another.
use Rattle.std.proofs.Common.{ℕ, suc, ◌<◌, List, ◌⊎◌, inl, inr, ◌≡◌, sym, ap, ◌∙◌, arith, lt-ltb, length, take, length-take, take_all, Err}
use Rattle.std.proofs.lemmas.Bool.{cases_lt}
use Rattle.policy.specs.Fault.{refusal, in_text}
use Rattle.policy.specs.Policy.{Policy}
use Rattle.policy.specs.declared.fault.Fault.{Fault}
use Rattle.policy.specs.declared.fault.Source.{Source}
use Rattle.rule_text.specs.Text.{empty_policy, text_limit, read_text_behind, read_text, read_texts}

-- a byte more than a text may have
abbrev over : ℕ
over = suc text_limit

-- what is cut off is cut off a text that is too long
pub whole_or_long : (text : List ℕ) → (take over text ≡ text) ⊎ (text_limit < length text)
whole_or_long text = elim (cases_lt text_limit (length text)) [ inl h ↦ inr h | inr h ↦ inl (take_all over text (omega arith)) ]

pub long_stops : (form : ℕ) (p : Policy) (text : List ℕ) → text_limit < length text → read_text_behind form p text ≡ Err (refusal Fault.TooLong 0)
unfolding read_text_behind
long_stops form p text h = rw (lt-ltb text_limit (length text) h)

behind_cut : (form : ℕ) (p : Policy) (text : List ℕ) → read_text_behind form p (take over text) ≡ read_text_behind form p text
behind_cut form p text =
    elim (whole_or_long text) [
      | inl e ↦ ap (read_text_behind form p) e
      | inr h ↦ long_stops form p (take over text) (omega (arith, length-take over text)) ∙ sym (long_stops form p text h)
    ]

pub text_cut : (form : ℕ) (text : List ℕ) → read_text form (take over text) ≡ read_text form text
unfolding read_text
text_cut form text = ap (in_text Source.Maker) (behind_cut form empty_policy text)

pub texts_cut : (form : ℕ) (maker site : List ℕ) → read_texts form (take over maker) (take over site) ≡ read_texts form maker site
unfolding read_texts
texts_cut form maker site = rw (text_cut form maker) (grind (arith, λ (p : Policy). behind_cut form p site))
