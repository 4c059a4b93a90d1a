-- Laws of running words: one word that is run, over a list of words with an index.
use Rattle.std.proofs.Common.{ℕ, zero, suc, ◌+◌, ◌≤◌, ◌<◌, Bool, false, cond, List, [], ◌∷◌, ◌≡◌, refl, ap, ◌∙◌, arith, length, drop, drop_of_length-le, drop-drop, get_or, ◌-◌, true}
use Rattle.policy.specs.declared.line.Part.{Part}
use Rattle.operation.specs.Fields.{skip_of, operation_of}
use Rattle.operation.specs.Said.{says, constants_of}
use Rattle.operation.specs.Whole.{ends_line}
use Rattle.operation.specs.declared.operation.Operation.{Operation}
use Rattle.operation.specs.declared.said.LinePart.{LinePart}
use Rattle.operation.proofs.WholeLaws.{rest_at, behind, InLine, OnLines, lines_inside, line_goes_on, constant_inside}
use Rattle.run.specs.Run.{ran}

module _ (test : LinePart → Bool) where
  -- words that are passed over
  pub ran_pass : (n : ℕ) (ws : List ℕ) → ran test n ws ≡ ran test 0 (drop n ws)
  unfolding ran
  ran_pass zero ws = refl
  ran_pass (suc n) [] = refl
  ran_pass (suc n) (w ∷ ws) = ran_pass n ws

  -- past the last word
  pub ran_end : (ws : List ℕ) (at : ℕ) → length ws ≤ at → ran test 0 (drop at ws) ≡ []
  unfolding ran
  ran_end ws at h = ap (ran test 0) (drop_of_length-le ws h)

  -- one turn of the code, which has fetched the word w at an index, and goes on at another
  module _ (ws : List ℕ) (at w : ℕ) (within : at < length ws) (this : w ≡ get_or ws at 0) where
    abbrev said : LinePart
    said = says w (get_or ws (at + 1) 0)

    pub turn : (next : ℕ) (holds : Bool) → holds ≡ test said → next ≡ at + 1 + constants_of said + cond holds 0 (skip_of w)
        → ran test 0 (drop at ws) ≡ said ∷ ran test 0 (drop next ws)
    unfolding ran
    turn next holds h e = grind (arith, rest_at, behind, ran_pass, drop-drop)

-- ---- on whole lines

-- the word `w` before `behind`, where the run goes on with it: it is one of a whole line
module _ {part : Part} {ws : List ℕ} {at behind w : ℕ} (next : behind ≡ at + 1) (lines : OnLines part ws at) (within : behind ≤ length ws) (this : w ≡ get_or ws (behind - 1) 0) where
  abbrev here : LinePart
  here = says w (get_or ws behind 0)

  pub line_here : InLine part ws at
  line_here = lines_inside part ws at (omega arith) lines

  pub word_here : w ≡ get_or ws at 0
  word_here = this ∙ ap (λ (k : ℕ). get_or ws k 0) (omega arith)

  -- behind a word that ends no line stands another of its line
  pub goes_onward : ends_line part here ≡ false → InLine part ws (behind + constants_of here)
  goes_onward e = rw next (line_goes_on part ws at w word_here line_here (rw (← next) e))

  pub constant_within : operation_of w ≡ Operation.AgainstConstant → behind + 1 < length ws
  constant_within o = omega (arith, constant_inside part ws at w word_here line_here o)
