-- What is claimed of explanations: when there is one, what it says became of an action, which line it shows, and that
-- what it shows stands in the text.
use Rattle.std.specs.Prelude.{ℕ, ◌+◌, ◌<◌, ◌≤◌, true, false, ◌≡◌, length, List, [], ◌∷◌, ◌++◌, Contains, Ok, Err, Some}
use Rattle.policy.specs.declared.effect.Effect.{Effect}
use Rattle.policy.specs.declared.epoch.Epoch.{Epoch}
use Rattle.policy.specs.Fault.{refusal}
use Rattle.policy.specs.Line.{PolicyLine, rule, constraint}
use Rattle.policy.specs.Number.{set_limit}
use Rattle.policy.specs.Policy.{Policy}
use Rattle.policy.specs.Set.{ActionSet, EventSet, all_events, has_action, insert_action, actions_below}
use Rattle.policy.specs.declared.fault.Fault.{Fault}
use Rattle.policy.specs.declared.fault.Refusal.{Refusal}
use Rattle.policy.specs.declared.number.Action.{Action}
use Rattle.pdl.specs.Answer.{Answer}
use Rattle.pdl.specs.Pdl.{Derives, HoldsOn}
use Rattle.lexer.specs.Lines.{lines_of}
use Rattle.syntax.specs.Judge.{line_answer}
use Rattle.rule_text.specs.Text.{read_texts, policy_of_texts}
use Rattle.codegen.specs.Compile.{newest_form}
use Rattle.guarantees.specs.Machine.{next_epoch}
use Rattle.explanation.specs.Part.{Stretch, Quote, of_maker, of_site}
use Rattle.explanation.specs.Why.{Explanation, not_proposed, accepted_by, cancelled_by}

abbrev pub action : ℕ → Action
action n = record { 0 = n }

-- ---- when there is an explanation

-- the texts, the epoch line and the action's number pass all checks
pub record IsExplainable (maker site : List ℕ) (pending : EventSet) (line : List ℕ) (n : ℕ) : Type 0 where
  pub policy : Policy
  pub both : policy_of_texts newest_form maker site ≡ Some policy
  pub epoch : Epoch
  pub read : next_epoch policy pending line ≡ Ok epoch
  pub number : n < set_limit

-- for what one is refused: each only where those before it pass. Of the line it is a fault of its own, or 18
pub data Unexplained (maker site : List ℕ) (pending : EventSet) (line : List ℕ) (n : ℕ) (r : Refusal) : Type 0 where
  the_texts : read_texts newest_form maker site ≡ Err r → Unexplained maker site pending line n r
  the_line : (p : Policy) → policy_of_texts newest_form maker site ≡ Some p → next_epoch p pending line ≡ Err r
      → Unexplained maker site pending line n r
  the_action : (p : Policy) → policy_of_texts newest_form maker site ≡ Some p → (e : Epoch) → next_epoch p pending line ≡ Ok e → set_limit ≤ n
      → r ≡ refusal Fault.EpochRange 0 → Unexplained maker site pending line n r

-- ---- what became of an action

-- what is told is whether the answer to the epoch has the action in its sets
abbrev pub TellsOutcome : Answer → Action → Explanation → Type 0
TellsOutcome answer a (accepted_by x) = (has_action answer.accepted a ≡ true) × (has_action answer.cancelled a ≡ false)
TellsOutcome answer a (cancelled_by x) = (has_action answer.accepted a ≡ false) × (has_action answer.cancelled a ≡ true)
TellsOutcome answer a not_proposed = (has_action answer.accepted a ≡ false) × (has_action answer.cancelled a ≡ false)

-- ---- which line is shown

-- of an accepted action: a rule that by itself derives it
abbrev pub Proposes : Epoch → Action → PolicyLine → Type 0
Proposes e a (rule r) = Derives (r ∷ []) (all_events e.events) e.readings (Effect.Causes a)
Proposes e a (constraint c) = ⊥

-- of a cancelled one: a constraint that holds on the accepted actions under it together with it
abbrev pub Cancels : Epoch → ActionSet → Action → PolicyLine → Type 0
Cancels e accepts a (rule r) = ⊥
Cancels e accepts a (constraint c) = HoldsOn e.readings (insert_action (actions_below accepts a) a) c

-- a line of a policy
abbrev pub Listed : Policy → PolicyLine → Type 0
Listed p (rule r) = Contains p.rules r
Listed p (constraint c) = Contains p.constraints c

-- no line of a text that is read as a line of a policy says so
abbrev pub NoneSays : (PolicyLine → Type 0) → List (List ℕ) → Type 0
NoneSays Says lines = (line : List ℕ) → Contains lines line → (l : PolicyLine) → line_answer newest_form line ≡ Ok (Some l) → ¬ Says l

-- how many bytes lines have, with their line ends
unfoldable pub ended_length : List (List ℕ) → ℕ
ended_length [] = 0
ended_length (line ∷ lines) = length line + 1 + ended_length lines

-- no byte but spaces
abbrev pub Spaces : List ℕ → Type 0
Spaces s = (b : ℕ) → Contains s b → b ≡ 32

-- bytes with no space at either end
pub record Unspaced (part : List ℕ) : Type 0 where
  pub first : (b : ℕ) (rest : List ℕ) → part ≡ b ∷ rest → ¬ (b ≡ 32)
  pub last : (rest : List ℕ) (b : ℕ) → part ≡ rest ++ b ∷ [] → ¬ (b ≡ 32)

-- trimmed of spaces at both ends
pub record Trimmed (line part : List ℕ) : Type 0 where
  pub ahead : List ℕ
  pub behind : List ℕ
  pub whole : line ≡ ahead ++ (part ++ behind)
  pub spaces_ahead : Spaces ahead
  pub spaces_behind : Spaces behind
  pub unspaced : Unspaced part

-- straight out of the text that it stands in: from its first byte on it is that part of the text, not empty and within a line
pub record Straight (text : List ℕ) (shown : Stretch) : Type 0 where
  pub before : List ℕ
  pub behind : List ℕ
  pub whole : text ≡ before ++ (shown.bytes ++ behind)
  pub start : length before ≡ shown.start
  pub some : ¬ (shown.bytes ≡ [])
  pub unspaced : Unspaced shown.bytes
  pub no_line_end : ¬ Contains shown.bytes 10

-- of the text that it is from
abbrev pub QuotedStraight : (maker site : List ℕ) → Quote → Type 0
QuotedStraight maker site (of_maker x) = Straight maker x
QuotedStraight maker site (of_site x) = Straight site x

-- the first line of a text that says so, and what is shown of it
pub record FirstOf (Says : PolicyLine → Type 0) (p : Policy) (text : List ℕ) (shown : Stretch) : Type 0 where
  pub before : List (List ℕ)
  pub line : List ℕ
  pub behind : List (List ℕ)
  pub stands : lines_of text ≡ before ++ line ∷ behind
  pub is : PolicyLine
  pub read : line_answer newest_form line ≡ Ok (Some is)
  pub listed : Listed p is
  pub says : Says is
  -- no earlier line does
  pub first : NoneSays Says before
  pub trimmed : Trimmed line shown.bytes
  pub at : shown.start ≡ ended_length before + length trimmed.ahead
  pub straight : Straight text shown

-- of both texts: one of the site's where none of the maker's says so
abbrev pub FirstLine : (PolicyLine → Type 0) → Policy → (maker site : List ℕ) → Quote → Type 0
FirstLine Says p maker site (of_maker x) = FirstOf Says p maker x
FirstLine Says p maker site (of_site x) = NoneSays Says (lines_of maker) × FirstOf Says p site x
