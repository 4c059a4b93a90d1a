-- Which fault a refused text and a refused epoch line have, where there could be several: the first line that has one, and for an
-- epoch line the first in the order of the tests.
use Rattle.std.specs.Prelude.{ℕ, suc, ◌≤◌, ◌<◌, ◌⊎◌, true, false, List, [], ◌∷◌, ◌++◌, ◌≡◌, length, nat_eq, Some, None}
use Rattle.policy.specs.Limits.{line_limit, repeats}
use Rattle.policy.specs.Line.{PolicyLine, line_part, line_count}
use Rattle.policy.specs.Policy.{Policy}
use Rattle.std.specs.List.{list_all, list_any}
use Rattle.policy.specs.Fault.{refusal, within}
use Rattle.policy.specs.declared.fault.Fault.{Fault}
use Rattle.policy.specs.declared.fault.Refusal.{Refusal}
use Rattle.policy.specs.declared.fault.Source.{Source}
use Rattle.lexer.specs.Lines.{lines_of, tokens_of}
use Rattle.rule_text.specs.Text.{with_line, empty_policy, text_limit}
use Rattle.epoch_line.specs.Epoch.{Item, items_of, item_in_range, given_by, epoch_limit}
use Rattle.acceptance.specs.OneLine.{LineSkipped, LineAccepted, LineRefused}

-- a line that can stand behind those of a policy, and the policy with it: a skipped one adds nothing, an accepted one comes last of its kind, if there
-- is room for one more
pub data Takes (form : ℕ) (p : Policy) (line : List ℕ) : Policy → Type 0 where
  passed : LineSkipped line → Takes form p line p
  added : (l : PolicyLine) → LineAccepted form line l → line_count p (line_part l) < line_limit (line_part l) → Takes form p line (with_line p l)

-- such lines, one behind another
unfoldable pub TakesAll : (form : ℕ) → Policy → List (List ℕ) → Policy → Type 0
TakesAll form p [] q = p ≡ q
TakesAll form p (line ∷ lines) q = (m : Policy) × Takes form p line m × TakesAll form m lines q

-- a text that is accepted for a form, and its policy: it is short enough, and each of its lines is taken
pub record TextAccepted (form : ℕ) (text : List ℕ) (p : Policy) : Type 0 where
  pub short : length text ≤ text_limit
  pub taken : TakesAll form empty_policy (lines_of text) p

-- for what a line is refused behind the lines of a policy: for a fault of its own, or as one line too many of its kind
pub data LineFault (form : ℕ) (p : Policy) (line : List ℕ) : Fault → Type 0 where
  own : (f : Fault) → LineRefused form line f → LineFault form p line f
  one_more : (l : PolicyLine) → LineAccepted form line l → line_limit (line_part l) ≤ line_count p (line_part l) → LineFault form p line Fault.TooManyLines

-- line n of a text behind a policy is the first that is refused: those before it are taken
pub record FirstFault (form : ℕ) (p : Policy) (text : List ℕ) (f : Fault) (n : ℕ) : Type 0 where
  pub before : List (List ℕ)
  pub line : List ℕ
  pub after : List (List ℕ)
  pub lines : lines_of text ≡ before ++ line ∷ after
  pub number : n ≡ suc (length before)
  pub policy : Policy
  pub taken : TakesAll form p before policy
  pub fault : LineFault form policy line f

-- for what two texts are refused, read as one: the maker's text first, each for its length before its lines, and the site's lines behind
-- the policy of the maker's
pub data TextsFault (form : ℕ) (maker site : List ℕ) : Refusal → Type 0 where
  maker_long : text_limit < length maker → TextsFault form maker site (within Source.Maker (refusal Fault.TooLong 0))
  in_maker : length maker ≤ text_limit → (f : Fault) (n : ℕ) → FirstFault form empty_policy maker f n → TextsFault form maker site (within Source.Maker (refusal f n))
  site_long : (p : Policy) → TextAccepted form maker p → text_limit < length site → TextsFault form maker site (within Source.Site (refusal Fault.TooLong 0))
  in_site : (p : Policy) → TextAccepted form maker p → length site ≤ text_limit → (f : Fault) (n : ℕ) → FirstFault form p site f n
      → TextsFault form maker site (within Source.Site (refusal f n))

-- the tests of an epoch line, one behind another
pub data EpochFault (line : List ℕ) : Refusal → Type 0 where
  too_long : epoch_limit < length line → EpochFault line (refusal Fault.TooLong 0)
  wrong_shape : length line ≤ epoch_limit → (list_any (nat_eq 10) line ≡ true) ⊎ (items_of (tokens_of line) ≡ None) → EpochFault line (refusal Fault.EpochSyntax 0)
  out_of_range : length line ≤ epoch_limit → list_any (nat_eq 10) line ≡ false → (is : List Item) → items_of (tokens_of line) ≡ Some is → list_all item_in_range is ≡ false
      → EpochFault line (refusal Fault.EpochRange 0)
  given_twice : length line ≤ epoch_limit → list_any (nat_eq 10) line ≡ false → (is : List Item) → items_of (tokens_of line) ≡ Some is → list_all item_in_range is ≡ true
      → repeats (given_by is) ≡ true → EpochFault line (refusal Fault.DuplicateReading 0)
