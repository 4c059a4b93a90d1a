-- A line that is run on a set, and on every larger one.
use Rattle.std.proofs.Common.{ℕ, suc, ◌+◌, ◌-◌, ◌≤◌, ◌<◌, Bool, true, false, cond, List, ◌≡◌, refl, sym, ap, ◌∙◌, subst, arith, eqb-true, eq-eqb, get_or, length, drop, drop-drop}
use Rattle.policy.specs.declared.epoch.Readings.{Readings}
use Rattle.policy.specs.declared.line.Part.{Part}
use Rattle.policy.specs.Set.{ActionSet, has}
use Rattle.operation.proofs.WholeLaws.{rest_at, behind, InLine, WholeWord, whole_word, whole_passed, in_line_inside, OnLines, lines_inside, lines_behind, constant_inside}
use Rattle.operation.specs.Fields.{first_of, skip_of, operation_of}
use Rattle.operation.specs.Said.{says, says_by, constants_of}
use Rattle.operation.specs.declared.operation.Operation.{Operation}
use Rattle.operation.specs.declared.said.LinePart.{LinePart}
use Rattle.run.proofs.ConstraintLaws.{IsMember, is_member, ends_same, run_word, fetch_word, constraints_last, fetch_last}
use Rattle.run.specs.Run.{constraint_test, ends_constraint}
use Rattle.run.specs.Steps.Test.{IsTestOf}
use Rattle.run.specs.Steps.Wait.{Within, waits_for, Goes, Ends, LineTo, Told, Reaches}
use Rattle.run.specs.declared.reach.Stop.{Stop}
use Rattle.run.specs.declared.reach.Reached.{Reached}
use Rattle.run.specs.declared.test.Tested.{Tested}

-- ---- what a set decides

-- a word that is no member is tested alike on every set
pub test_alike : (rs : Readings) (s t : ActionSet) (w k : ℕ) → (operation_of w ≡ Operation.Member → ⊥) → constraint_test rs t (says w k) ≡ constraint_test rs s (says w k)
unfolding constraint_test says says_by
test_alike rs s t w k n = grind arith

ends_alone : (p : LinePart) → ends_constraint p ≡ true → constants_of p ≡ 0
unfolding ends_constraint constants_of
ends_alone p h = grind arith

-- ---- one trial

module _ {rs : Readings} {ws : List ℕ} {t : ActionSet} where
  pub goes_none : (at : ℕ) → Goes rs ws t at at 0
  goes_none at = record { holds = refl; words = omega arith }

  pub goes_then : {a b c m n : ℕ} → Goes rs ws t a b m → Goes rs ws t b c n → (k : ℕ) → k ≡ m + n → Goes rs ws t a c k
  goes_then g h k e = record { holds = g.holds ∙ h.holds; words = omega arith }

  pub goes_ends : {a b m n : ℕ} → Goes rs ws t a b m → Ends rs ws t b n → (k : ℕ) → k ≡ m + n → Ends rs ws t a k
  goes_ends g h k e = record { holds = g.holds ∙ h.holds; words = omega arith }

module _ (rs : Readings) (ws : List ℕ) (t : ActionSet) (at w : ℕ) (within : at < length ws) (this : w ≡ get_or ws at 0) where
  abbrev said : LinePart
  said = says w (get_or ws (at + 1) 0)

  goes_word : ends_constraint said ≡ false → (holds : Bool) → holds ≡ constraint_test rs t said → (next : ℕ) → next ≡ at + 1 + constants_of said + cond holds 0 (skip_of w)
      → (n : ℕ) → n ≡ 1 + constants_of said → Goes rs ws t at next n
  goes_word n holds h next e k f = let r = run_word rs t ws at w within this next holds h e in let c = fetch_word rs t ws at w within this next holds h e in record { holds = grind arith; words = grind arith }

  ends_word : ends_constraint said ≡ true → Ends rs ws t at 1
  ends_word h = record { holds = constraints_last rs t ws at w within this h; words = omega (arith, fetch_last rs t ws at w within this h, ends_alone said h) }

-- ---- one word of a line

line_in : {ws : List ℕ} {at end : ℕ} → LineTo ws at end → InLine Part.Constraints ws at
line_in {ws} {at} {end} l = record { left = end - at - 1; whole = grind arith }

pub line_within : {ws : List ℕ} {at end : ℕ} → LineTo ws at end → at < length ws
line_within {ws} {at} l = in_line_inside Part.Constraints ws at (line_in l)

module _ {ws : List ℕ} {at w end : ℕ} (l : LineTo ws at end) (this : w ≡ get_or ws at 0) where
  abbrev here : LinePart
  here = says w (get_or ws (at + 1) 0)

  word : WholeWord Part.Constraints (end - at) w (get_or ws (at + 1) 0) (drop (at + 1) ws)
  word = grind (arith, rest_at, line_within, behind, whole_word)

  -- the line ends where the skip says
  pub end_is : end ≡ at + 1 + constants_of here + skip_of w
  end_is = grind (arith, l.some, word.here)

  pub line_on : ends_constraint here ≡ false → LineTo ws (at + 1 + constants_of here) end
  line_on n =
      let some : 0 < skip_of w = grind (arith, word.onward, ends_same here) in
      let rest : skip_of w ≡ end - (at + 1 + constants_of here) = omega (arith, end_is) in
      record { some = omega (arith, end_is); whole = rw (← rest, ← drop-drop) (whole_passed Part.Constraints (constants_of here) (skip_of w) _ (drop (at + 1) ws) refl word.rest) }

-- ---- from word to word

module _ (rs : Readings) (ws : List ℕ) (s : ActionSet) (from end : ℕ) where
  -- the run is at a word of the line, on the set and on every larger one
  pub record Along (at : ℕ) : Type 0 where
    pub forward : from ≤ at
    pub line : LineTo ws at end
    pub goes : (t : ActionSet) → Within s t → Goes rs ws t from at (at - from)

module _ {rs : Readings} {ws : List ℕ} {s : ActionSet} {from end at w : ℕ} (a : Along rs ws s from end at) (this : w ≡ get_or ws at 0) where
  abbrev word_here : LinePart
  word_here = says w (get_or ws (at + 1) 0)

  at_end : end ≡ at + 1 + constants_of word_here + skip_of w
  at_end = end_is a.line this

  -- on a set on which the word does not end the constraint, and has so many constants
  steps : (t : ActionSet) → Within s t → ends_constraint word_here ≡ false → (holds : Bool) → holds ≡ constraint_test rs t word_here → (next : ℕ) → next ≡ at + 1 + constants_of word_here + cond holds 0 (skip_of w)
      → (n : ℕ) → n ≡ at + 1 + constants_of word_here → Goes rs ws t from next (n - from)
  steps t sub none holds h next e n f = goes_then (a.goes t sub) (goes_word rs ws t at w (line_within a.line) this none holds h next e _ refl) _ (omega (arith, a.forward))

  -- a constant has a word of its line behind it
  pub constant_within : operation_of w ≡ Operation.AgainstConstant → at + 1 < length ws
  constant_within o = omega (arith, constant_inside Part.Constraints ws at w this (line_in a.line) o)

  -- a member
  module _ (m : operation_of w ≡ Operation.Member) (f : ℕ) (ef : f ≡ first_of w) where
    member : IsMember rs w (get_or ws (at + 1) 0)
    member = is_member rs w (get_or ws (at + 1) 0) m

    tests : (t : ActionSet) → constraint_test rs t word_here ≡ has t.bits f
    tests t = rw ef (member.tests t)

    next_line : LineTo ws (at + 1) end
    next_line = let same : at + 1 + constants_of word_here ≡ at + 1 = omega (arith, member.alone) in subst (λ (n : ℕ). LineTo ws n end) same (line_on a.line this member.goes_on)

    one_on : (t : ActionSet) → Within s t → has t.bits f ≡ true → Goes rs ws t from (at + 1) (at + 1 - from)
    one_on t sub h = steps t sub member.goes_on true (sym h ∙ sym (tests t)) (at + 1) (omega (arith, member.alone)) (at + 1) (omega (arith, member.alone))

    -- one that the set has
    pub member_on : has s.bits f ≡ true → Along rs ws s from end (at + 1)
    member_on h = record { forward = omega (arith, a.forward); line = next_line; goes = λ t sub. one_on t sub (sub f h) }

    -- one that it lacks
    pub member_lacks : has s.bits f ≡ false → (r : Reached) → r ≡ record { stop = Stop.Lacks (record { 0 = f }); behind = at + 1 } → Reaches rs ws s from end r
    unfolding Told waits_for
    member_lacks h r e = grind (arith, eqb-true, steps, member, eq-eqb, tests, at_end, one_on, next_line)

  -- the end of the constraint
  pub holds_here : ends_constraint word_here ≡ true → (r : Reached) → r ≡ record { stop = Stop.Holds; behind = at + 1 } → Reaches rs ws s from end r
  unfolding Told
  holds_here h r e = grind (arith, goes_ends, ends_word, line_within)

  -- another test
  module _ (other : operation_of w ≡ Operation.Member → ⊥) (x : Tested) (is : IsTestOf rs s word_here (at + 1) x) where
    next_is : x.next ≡ at + 1 + constants_of word_here
    next_is = ap (λ (y : Tested). y.next) is.is

    result : (t : ActionSet) → x.holds ≡ constraint_test rs t word_here
    result t = ap (λ (y : Tested). y.holds) is.is ∙ sym (test_alike rs s t w (get_or ws (at + 1) 0) other)

    next_on : LineTo ws x.next end
    next_on = rw next_is (line_on a.line this is.goes_on)

    pub test_on : x.holds ≡ true → Along rs ws s from end x.next
    test_on h = grind (arith, next_is, next_on, steps, result)

    pub test_fails : x.holds ≡ false → (r : Reached) → r ≡ record { stop = Stop.Fails; behind = x.next } → Reaches rs ws s from end r
    unfolding Told waits_for
    test_fails h r e = grind (arith, next_is, next_on, steps, result, at_end)

-- ---- where a line begins

-- a line begins at each index at which words of whole lines begin, and behind it another
pub line_first : {ws : List ℕ} {at w fetched skip : ℕ} → at < length ws → w ≡ get_or ws at 0 → OnLines Part.Constraints ws at → ((k : ℕ) → fetched ≡ 1 + constants_of (says w k)) → skip ≡ skip_of w
    → LineTo ws at (at + fetched + skip) × OnLines Part.Constraints ws (at + fetched + skip)
line_first {ws} {at} {w} {fetched} {skip} within this on e f =
    let i = lines_inside Part.Constraints ws at within on in
    let size : suc i.left ≡ at + suc i.left - at = omega arith in
    let l : LineTo ws at (at + suc i.left) = record { some = omega arith; whole = rw (← size) i.whole } in
    let same : at + fetched + skip ≡ at + suc i.left = omega (arith, e (get_or ws (at + 1) 0), end_is l this) in
    let behind : at + fetched + skip ≡ at + 1 + constants_of (says w (get_or ws (at + 1) 0)) + skip_of w = omega (arith, e (get_or ws (at + 1) 0)) in
    (rw same l, rw behind (lines_behind Part.Constraints ws at w this i))
