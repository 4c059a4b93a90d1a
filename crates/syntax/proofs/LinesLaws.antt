-- Laws of the lines of a text: what the first line of the rest comes to, before those behind it.
use Rattle.std.proofs.Common.{ℕ, suc, ◌+◌, ◌<◌, ◌≤◌, List, [], ◌∷◌, ◌≡◌, refl, arith, length, drop, Some, None, Option, Result, Ok, Err}
use Rattle.policy.specs.Fault.{refusal}
use Rattle.policy.specs.Line.{PolicyLine}
use Rattle.policy.specs.declared.fault.Fault.{Fault}
use Rattle.policy.specs.declared.fault.Refusal.{Refusal}
use Rattle.lexer.specs.Lines.{prepend, pieces, lines_of, first_line}
use Rattle.syntax.proofs.AnswerLaws.{lines_here, next_shorter, read_refused, read_ok}
use Rattle.syntax.specs.Answer.{next_line, line_read}
use Rattle.syntax.specs.Judge.{line_answer}
use Rattle.syntax.specs.Lines.{TextLine, before_later, lines_from, lines_in}

-- what stands behind a line that was read is shorter
pub read_shorter : (form : ℕ) (rest : List ℕ) → 0 < length rest → (o : Option PolicyLine) (behind : List ℕ) → Ok (o, behind) ≡ line_read form rest → length behind < length rest
read_shorter form rest h o behind e = grind (arith, read_ok, next_shorter)

-- ---- the rest of a text

abbrev pub left : ℕ → ℕ → List ℕ → List (Result TextLine Refusal)
left form n rest = lines_from form n rest (lines_of rest)

pub left_none : (form n : ℕ) (rest : List ℕ) → length rest ≡ 0 → left form n rest ≡ []
unfolding lines_from lines_of pieces
left_none form n [] e = refl
left_none form n (b ∷ s) e = grind arith

-- what stands behind the first line and its end
next_is : (s : List ℕ) → drop (suc (length (first_line s))) s ≡ next_line s
next_is [] = refl
next_is (b ∷ s) = grind (arith, next_is s)

module _ (form n : ℕ) (rest : List ℕ) (h : 0 < length rest) where
  pub left_here : left form n rest ≡ before_later n rest (first_line rest) (line_answer form (first_line rest)) (left form (n + 1) (next_line rest))
  unfolding lines_from
  left_here = grind (arith, lines_here, next_is)

  pub left_refused : (f : Fault) → Err f ≡ line_read form rest → left form n rest ≡ Err (refusal f n) ∷ []
  unfolding before_later
  left_refused f e = grind (arith, left_here, read_refused form rest f e)

  module _ (behind : List ℕ) where
    pub left_skipped : Ok (None, behind) ≡ line_read form rest → left form n rest ≡ left form (n + 1) behind
    unfolding before_later
    left_skipped e = grind (arith, left_here, read_ok form rest None behind e)

    pub left_accepted : (l : PolicyLine) → Ok (Some l, behind) ≡ line_read form rest → left form n rest ≡ Ok (record { number = n; text = rest; bytes = first_line rest; line = l }) ∷ left form (n + 1) behind
    unfolding before_later
    left_accepted l e = grind (arith, left_here, read_ok form rest (Some l) behind e)

-- ---- a text has no more lines than bytes

from_few : (form : ℕ) (ls : List (List ℕ)) (n : ℕ) (text : List ℕ) → length (lines_from form n text ls) ≤ length ls
unfolding lines_from before_later
from_few form [] n text = grind arith
from_few form (bytes ∷ ls) n text = grind (arith, from_few form ls (n + 1) (drop (suc (length bytes)) text))

pieces_few : (s : List ℕ) → length (pieces 10 s) ≤ length s
unfolding pieces prepend
pieces_few [] = grind arith
pieces_few (b ∷ s) = grind (arith, pieces_few s)

pub lines_few : (form : ℕ) (text : List ℕ) → length (lines_in form text) ≤ length text
unfolding lines_of
lines_few form text = grind (arith, from_few, pieces_few)
