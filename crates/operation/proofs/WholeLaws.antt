-- Laws of words that are whole lines: from each word of a line on, and behind it.
use Rattle.std.proofs.Common.{ℕ, zero, suc, ◌+◌, ◌<◌, true, false, ◌||◌, ◌==◌, nat_lt, if◌then◌else◌, List, [], ◌∷◌, ◌≡◌, refl, ◌-◌, arith, eqb-true, ltb-true, lt-ltb, get_or, length, length-drop, drop, drop-drop, drop-cons, get_or-drop, add-zero, add-one, zero-add}
use Rattle.std.proofs.lemmas.Bool.{and_from}
use Rattle.std.proofs.lemmas.Bool.Decides.{nat_tests}
use Rattle.policy.specs.declared.line.Part.{Part}
use Rattle.operation.specs.Fields.{skip_of, operation_of}
use Rattle.operation.specs.Parts.{constant_comparison}
use Rattle.operation.specs.Said.{says, says_by, constants_of}
use Rattle.operation.specs.Whole.{ends, ends_line, whole_from, whole_lines}
use Rattle.operation.specs.declared.operation.Operation.{Operation}
use Rattle.operation.specs.declared.said.LinePart.{LinePart}

-- ---- an index in a list of words

pub rest_at : (ws : List ℕ) (at : ℕ) → at < length ws → drop at ws ≡ get_or ws at 0 ∷ drop (at + 1) ws
rest_at ws at within = rw add-one (drop-cons ws at 0 within)

pub behind : (ws : List ℕ) (at : ℕ) → get_or (drop (at + 1) ws) 0 0 ≡ get_or ws (at + 1) 0
behind ws at = rw (get_or-drop (at + 1) ws 0 0, add-zero (at + 1)) refl

-- ---- whole lines

module _ (part : Part) where
  -- a constant is fetched for a comparison with one, which ends no line
  pub constant_on : (w k : ℕ) → operation_of w ≡ Operation.AgainstConstant → (ends_line part (says w k) ≡ false) × (constants_of (says w k) ≡ 1)
  unfolding says says_by ends ends_line constants_of constant_comparison
  constant_on w k o = grind arith

  -- what is known of a word that is run, with the word behind it
  pub record WholeWord (left w k : ℕ) (ws : List ℕ) : Type 0 where
    pub here : (left == 0 || left == 1 + (constants_of (says w k) + skip_of w)) ≡ true
    pub onward : (if ends_line part (says w k) then constants_of (says w k) + skip_of w == 0 else nat_lt 0 (skip_of w)) ≡ true
    pub rest : whole_from part (constants_of (says w k)) (constants_of (says w k) + skip_of w) ws ≡ true

  pub whole_word : (left w : ℕ) (ws : List ℕ) → whole_from part zero left (w ∷ ws) ≡ true → WholeWord left w (get_or ws 0 0) ws
  unfolding whole_from
  whole_word left w ws e = grind arith

  pub word_whole : (left w : ℕ) (ws : List ℕ) → WholeWord left w (get_or ws 0 0) ws → whole_from part zero left (w ∷ ws) ≡ true
  unfolding whole_from
  word_whole left w ws h = and_from _ _ (and_from _ _ h.here h.onward) h.rest

  behind_is : (left w k : ℕ) (ws : List ℕ) → WholeWord (suc left) w k ws → constants_of (says w k) + skip_of w ≡ left
  behind_is left w k ws h = let e = h.here in grind (arith, nat_tests)

  -- behind what is left of a line, lines begin
  pub whole_behind : (passed left : ℕ) (ws : List ℕ) → whole_from part passed left ws ≡ true → whole_lines part (drop left ws) ≡ true
  unfolding whole_from
  whole_behind zero zero ws e = e
  whole_behind zero (suc left) [] e = cc
  whole_behind (suc passed) left [] e = cc
  whole_behind (suc passed) zero (w ∷ ws) e = cc
  whole_behind (suc passed) (suc left) (w ∷ ws) e = whole_behind passed left ws e
  whole_behind zero (suc left) (w ∷ ws) e =
      let h = whole_word (suc left) w ws e in
      rw (behind_is left w (get_or ws 0 0) ws h) at (whole_behind (constants_of (says w (get_or ws 0 0))) (constants_of (says w (get_or ws 0 0)) + skip_of w) ws h.rest)

  -- behind the words that are passed over the line goes on
  pub whole_passed : (passed left total : ℕ) (ws : List ℕ) → total ≡ passed + left → whole_from part passed total ws ≡ true → whole_from part 0 left (drop passed ws) ≡ true
  unfolding whole_from
  whole_passed zero left total ws n e = rw (n, zero-add) at e
  whole_passed (suc passed) left total [] n e = cc
  whole_passed (suc passed) left zero (w ∷ ws) n e = cc
  whole_passed (suc passed) left (suc total) (w ∷ ws) n e = whole_passed passed left total ws (omega arith) e

  -- so many words of a line are left at an index, none where one begins or the words end
  pub record OnLines (ws : List ℕ) (at : ℕ) : Type 0 where
    pub left : ℕ
    pub whole : whole_from part 0 left (drop at ws) ≡ true

  -- a word of a line stands there
  pub record InLine (ws : List ℕ) (at : ℕ) : Type 0 where
    pub left : ℕ
    pub whole : whole_from part 0 (suc left) (drop at ws) ≡ true

  whole_some : (left : ℕ) (ws : List ℕ) → whole_from part 0 (suc left) ws ≡ true → 0 < length ws
  unfolding whole_from
  whole_some left [] e = cc
  whole_some left (w ∷ ws) e = omega arith

  pub in_line_inside : (ws : List ℕ) (at : ℕ) → InLine ws at → at < length ws
  in_line_inside ws at h = omega (arith, whole_some h.left (drop at ws) h.whole, length-drop at ws)

  module _ (ws : List ℕ) (at : ℕ) where
    module _ (within : at < length ws) where
      word_here : (left : ℕ) → whole_from part 0 left (drop at ws) ≡ true → WholeWord left (get_or ws at 0) (get_or (drop (at + 1) ws) 0 0) (drop (at + 1) ws)
      word_here left e = whole_word left (get_or ws at 0) (drop (at + 1) ws) (rw (rest_at ws at within) at e)

      pub lines_inside : OnLines ws at → InLine ws at
      lines_inside h = go h.left h.whole
        where
          n : ℕ
          n = constants_of (says (get_or ws at 0) (get_or (drop (at + 1) ws) 0 0)) + skip_of (get_or ws at 0)

          go : (left : ℕ) → whole_from part 0 left (drop at ws) ≡ true → InLine ws at
          go (suc left) e = record { left = left; whole = e }
          go zero e =
              let f = word_here 0 e in
              record { left = n; whole = rw (rest_at ws at within) (word_whole (suc n) (get_or ws at 0) (drop (at + 1) ws) (record { here = grind (arith, nat_tests); onward = f.onward; rest = f.rest })) }

    module _ (w : ℕ) (this : w ≡ get_or ws at 0) (h : InLine ws at) where
      abbrev said : LinePart
      said = says w (get_or ws (at + 1) 0)

      at_word : WholeWord (suc h.left) w (get_or ws (at + 1) 0) (drop (at + 1) ws)
      at_word = rw (this, ← behind ws at) (word_here (in_line_inside ws at h) (suc h.left) h.whole)

      pub line_goes_on : ends_line part said ≡ false → InLine ws (at + 1 + constants_of said)
      line_goes_on n =
          let some : 0 < skip_of w = ltb-true 0 (skip_of w) (rw n at at_word.onward) in
          let one : suc (skip_of w - 1) ≡ skip_of w = omega (arith, some) in
          record { left = skip_of w - 1; whole = rw (one, ← drop-drop (constants_of said) (at + 1) ws) (whole_passed (constants_of said) (skip_of w) _ (drop (at + 1) ws) refl at_word.rest) }

      -- a constant has a word of its line behind it
      pub constant_inside : operation_of w ≡ Operation.AgainstConstant → at + 2 < length ws
      constant_inside o =
          let is = constant_on w (get_or ws (at + 1) 0) o in
          omega (arith, is.1, in_line_inside ws _ (line_goes_on is.0))

      pub lines_behind : OnLines ws (at + 1 + constants_of said + skip_of w)
      lines_behind = grind (arith, drop-drop, whole_behind, at_word)

      -- behind a word without a constant, whether it ends the line or not
      pub lines_onward : constants_of said ≡ 0 → OnLines ws (at + 1)
      lines_onward none = grind (arith, line_goes_on, eqb-true, at_word, lines_behind)

  pub whole_on_lines : (ws : List ℕ) → whole_lines part ws ≡ true → OnLines ws 0
  whole_on_lines ws e = record { left = 0; whole = e }

  -- ---- words put before whole lines

  pub end_whole : (w : ℕ) (ws : List ℕ) (p : LinePart) → says w (get_or ws 0 0) ≡ p → ends_line part p ≡ true → constants_of p ≡ 0 → skip_of w ≡ 0 → whole_lines part ws ≡ true → whole_from part 0 1 (w ∷ ws) ≡ true
  end_whole w ws p e h c k r = grind (arith, word_whole)

  pub test_whole : (w : ℕ) (ws : List ℕ) (p : LinePart) → says w (get_or ws 0 0) ≡ p → ends_line part p ≡ false → 0 < skip_of w → (left : ℕ) → left ≡ constants_of p + skip_of w → whole_from part (constants_of p) left ws ≡ true → whole_from part 0 (suc left) (w ∷ ws) ≡ true
  test_whole w ws p e h k left n r = word_whole (suc left) w ws (record { here = rw (e, ← n) (grind (arith, nat_tests)); onward = rw (e, h) (lt-ltb 0 (skip_of w) k); rest = rw (e, ← n) r })

  -- a line that goes on begins somewhere
  pub whole_begins : (left : ℕ) (ws : List ℕ) → whole_from part 0 (suc left) ws ≡ true → whole_lines part ws ≡ true
  unfolding whole_from
  whole_begins left [] e = cc
  whole_begins left (w ∷ ws) e = let h = whole_word (suc left) w ws e in word_whole 0 w ws (record { here = refl; onward = h.onward; rest = h.rest })
