-- What it says that `advance` answered.
use Rattle.std.proofs.Common.{ℕ, suc, ◌+◌, ◌<◌, List, [], ◌∷◌, ◌≡◌, arith, length, drop, Some, None, Result, Ok, Err}
use Rattle.policy.specs.declared.fault.Refusal.{Refusal}
use Rattle.syntax.specs.Judge.{line_answer}
use Rattle.syntax.specs.Lines.{TextLine, before_later, lines_from}
use Rattle.syntax.specs.Walk.{lines_ahead, from_first, StandsAt, StandsAtFirst}
use Rattle.syntax.specs.declared.text.Lines.{Lines}

-- a line of a text is accepted
pub first_accepted : (form : ℕ) (ls : List (List ℕ)) (n : ℕ) (text : List ℕ) (l : TextLine) (later : List (Result TextLine Refusal)) → lines_from form n text ls ≡ Ok l ∷ later
    → line_answer form l.bytes ≡ Ok (Some l.line)
unfolding lines_from before_later
first_accepted form [] n text l later e = cc
first_accepted form (bytes ∷ ls) n text l later e = grind (arith, first_accepted form ls (n + 1) (drop (suc (length bytes)) text) l later)

-- went on to a line, and the text from it on
pub record Advanced (before after : Lines) (text : List ℕ) : Type 0 where
  pub line : TextLine
  pub later : List (Result TextLine Refusal)
  pub first : lines_ahead before ≡ Ok line ∷ later
  pub ahead : lines_ahead after ≡ later
  pub at : StandsAt after line
  pub from : text ≡ line.text
  pub accepted : line_answer before.form line.bytes ≡ Ok (Some line.line)
  pub fewer : length (lines_ahead after) < length (lines_ahead before)

pub advanced : (before after : Lines) (text : List ℕ) → Ok (Some text) ≡ from_first (lines_ahead before) → StandsAtFirst after (lines_ahead before)
    → lines_ahead after ≡ drop 1 (lines_ahead before) → Advanced before after text
advanced before after text h k q = grind (arith, first_accepted)

pub no_more : (ls : List (Result TextLine Refusal)) → Ok None ≡ from_first ls → ls ≡ []
no_more ls h = grind arith

pub refused_first : (ls : List (Result TextLine Refusal)) (r : Refusal) → Err r ≡ from_first ls → (later : List (Result TextLine Refusal)) × (ls ≡ Err r ∷ later)
refused_first ls r h = grind arith
