-- Laws of the loops that run constraints: whether one holds, and how many words are fetched, from an index on.
use Rattle.std.proofs.Common.{ℕ, suc, ◌+◌, ◌-◌, ◌≤◌, ◌<◌, Bool, true, false, cond, ◌||◌, List, ◌∷◌, ◌≡◌, refl, sym, ap, ◌∙◌, arith, get_or, length, drop}
use Rattle.policy.specs.declared.epoch.Readings.{Readings}
use Rattle.std.specs.List.{list_any}
use Rattle.policy.specs.Set.{ActionSet, has_action}
use Rattle.policy.specs.declared.line.Part.{Part}
use Rattle.operation.specs.Fields.{first_of, skip_of, operation_of}
use Rattle.operation.specs.Said.{says_by, says, constants_of}
use Rattle.operation.specs.declared.operation.Operation.{Operation}
use Rattle.operation.specs.declared.said.LinePart.{LinePart}
use Rattle.operation.proofs.SaidLaws.{said_by}
use Rattle.operation.proofs.WholeLaws.{in_line_inside, lines_behind, OnLines}
use Rattle.operation.specs.Whole.{ends, ends_line}
use Rattle.run.specs.Run.{ran, constraint_test, ends_constraint, fetches, up_to}
use Rattle.run.specs.Steps.Test.{IsTestOf, said_at, left_at}
use Rattle.run.specs.Steps.Wait.{holds_from, tried_from}
use Rattle.run.specs.declared.test.Tested.{Tested}
use Rattle.run.proofs.RunLaws.{ran_end, turn, line_here, word_here, goes_onward}
use Rattle.run.proofs.FetchLaws.{fetches_up_to}

pub ends_same : (p : LinePart) → ends_line Part.Constraints p ≡ ends_constraint p
unfolding ends ends_line ends_constraint
ends_same p = grind arith

-- a member, which ends no constraint
pub record IsMember (rs : Readings) (w k : ℕ) : Type 0 where
  pub tests : (t : ActionSet) → constraint_test rs t (says w k) ≡ has_action t (record { 0 = first_of w })
  pub goes_on : ends_constraint (says w k) ≡ false
  pub alone : constants_of (says w k) ≡ 0

pub is_member : (rs : Readings) (w k : ℕ) → operation_of w ≡ Operation.Member → IsMember rs w k
unfolding says_by constraint_test ends_constraint constants_of
is_member rs w k m = let is = said_by w k Operation.Member m in record { tests = λ t. ap (constraint_test rs t) is; goes_on = ap ends_constraint is; alone = ap constants_of is }

-- so it is a test
pub member_tested : (rs : Readings) (s : ActionSet) (w k behind : ℕ) → operation_of w ≡ Operation.Member → {f : ℕ} → f ≡ first_of w → {holds : Bool} → holds ≡ has_action s (record { 0 = f })
    → IsTestOf rs s (says w k) behind (record { holds = holds; next = behind })
member_tested rs s w k behind m ef eh =
    let member = is_member rs w k m in record { goes_on = member.goes_on; is = rw (member.tests s, member.alone, eh, ef) (ap (λ (n : ℕ). record { holds = has_action s (record { 0 = first_of w }); next = n }) (omega arith)) }

-- ---- from an index on

module _ (rs : Readings) (s : ActionSet) (ws : List ℕ) where
  -- a run is at `at`: so far none held, and the words between `from` and `at` are as many as were fetched
  pub record Going (at from : ℕ) : Type 0 where
    pub holds : holds_from rs ws s at ≡ holds_from rs ws s 0
    pub behind : from ≤ at
    pub words : at + tried_from rs ws s at ≡ from + tried_from rs ws s 0

  -- the run goes on with the word before `behind`, at which words of whole lines begin
  pub record Begins (behind from : ℕ) : Type 0 where
    pub at : ℕ
    pub next : behind ≡ at + 1
    pub lines : OnLines Part.Constraints ws at
    pub going : Going at from

  -- the answer where the loops are left is that of the trial
  pub record Answers (at from : ℕ) : Type 0 where
    pub conflict : (left_at ws at from).conflict ≡ holds_from rs ws s 0
    pub words : (left_at ws at from).words ≡ tried_from rs ws s 0

module _ (rs : Readings) (s : ActionSet) (ws : List ℕ) (at w : ℕ) (within : at < length ws) (this : w ≡ get_or ws at 0) where
  abbrev said : LinePart
  said = says w (get_or ws (at + 1) 0)

  module _ (next : ℕ) (holds : Bool) (h : holds ≡ constraint_test rs s said) (e : next ≡ at + 1 + constants_of said + cond holds 0 (skip_of w)) where
    goes_on : ran (constraint_test rs s) 0 (drop at ws) ≡ said ∷ ran (constraint_test rs s) 0 (drop next ws)
    goes_on = turn (constraint_test rs s) ws at w within this next holds h e

    pub run_word : holds_from rs ws s at ≡ ends_constraint said || holds_from rs ws s next
    run_word = ap (list_any ends_constraint) goes_on

    pub fetch_word : tried_from rs ws s at ≡ 1 + constants_of said + cond (ends_constraint said) 0 (tried_from rs ws s next)
    fetch_word = rw (goes_on, fetches_up_to) refl

    -- a word that ends no constraint: what a failed test passes over is not fetched
    go_on : {from from' : ℕ} → Going rs s ws at from → ends_constraint said ≡ false → from' ≡ from + cond holds 0 (skip_of w) → Going rs s ws next from'
    go_on g n f = record { holds = grind (arith, g.holds, run_word); behind = omega (arith, g.behind); words = grind (arith, g.words, fetch_word) }

  -- the word at which the code leaves its loops ends a constraint
  module _ (ends : ends_constraint said ≡ true) where
    pub constraints_last : holds_from rs ws s at ≡ true
    constraints_last = grind (arith, run_word _ _ refl refl)

    pub fetch_last : tried_from rs ws s at ≡ 1 + constants_of said
    fetch_last = grind (arith, fetch_word _ _ refl refl)

-- ---- whole lines

module _ {rs : Readings} {s : ActionSet} {ws : List ℕ} where
  pub going : Going rs s ws 0 0
  going = record { holds = refl; behind = omega arith; words = refl }

  module _ {behind from w : ℕ} (b : Begins rs s ws behind from) (within : behind ≤ length ws) (this : w ≡ get_or ws (behind - 1) 0) where
    abbrev here : LinePart
    here = says w (get_or ws behind 0)

    module _ {t : Tested} (is : IsTestOf rs s here behind t) where
      goes : (holds : Bool) → t.holds ≡ holds → {next from' : ℕ} → next ≡ behind + constants_of here + cond holds 0 (skip_of w) → from' ≡ from + cond holds 0 (skip_of w) → Going rs s ws next from'
      goes holds h e f =
          let test : holds ≡ constraint_test rs s here = sym h ∙ ap (λ (x : Tested). x.holds) is.is in
          go_on rs s ws b.at w (omega (arith, b.next)) (word_here b.next b.lines within this) _ holds (rw (← b.next) test) (rw (← b.next) e) b.going (rw (← b.next) is.goes_on) f

      next_is : t.next ≡ behind + constants_of here
      next_is = ap (λ (x : Tested). x.next) is.is

      pub test_held : t.holds ≡ true → Begins rs s ws (t.next + 1) from × (t.next < length ws)
      test_held h =
          let on = goes_onward b.next b.lines within this (ends_same here ∙ is.goes_on) in (
            record { at = behind + constants_of here; next = omega (arith, next_is); lines = record { left = suc on.left; whole = on.whole }; going = goes true h (omega arith) (omega arith) },
            omega (arith, next_is, in_line_inside Part.Constraints ws _ on),
          )

      pub test_failed : t.holds ≡ false → {next from' : ℕ} → next ≡ t.next + 1 + skip_of w → from' ≡ from + skip_of w → Begins rs s ws next from'
      test_failed h e f =
          record { at = behind + constants_of here + skip_of w; next = omega (arith, e, next_is); lines = rw b.next (lines_behind Part.Constraints ws b.at w (word_here b.next b.lines within this) (line_here b.next b.lines within this)); going = goes false h refl f }

  -- ---- where the loops are left

  pub answers_past : {behind from : ℕ} → Begins rs s ws behind from → length ws < behind → Answers rs s ws (behind - 1) from
  unfolding left_at up_to fetches
  answers_past b past = grind (arith, ran_end)

  pub answers_end : {behind from w : ℕ} → Begins rs s ws behind from → behind ≤ length ws → w ≡ get_or ws (behind - 1) 0 → ends_constraint (says w (get_or ws behind 0)) ≡ true → Answers rs s ws (behind - 1) from
  unfolding left_at
  answers_end {behind} {w} b inside this ends =
      let here : behind - 1 ≡ b.at = omega (arith, b.next) in
      let next : behind ≡ b.at + 1 = b.next in
      let within : b.at < length ws = omega (arith, b.next) in
      let ends_here : ends_constraint (said_at ws b.at) ≡ true = cc in
      let last = constraints_last rs s ws b.at _ within refl ends_here in
      let fetch = fetch_last rs s ws b.at _ within refl ends_here in
      rw here (record { conflict = grind (arith, b.going.holds); words = grind (arith, b.going.words, b.going.behind) })
