-- Laws of the loop that runs rules: their effects, and how many words are fetched, from an index on.
use Rattle.std.proofs.Common.{ℕ, suc, ◌+◌, ◌-◌, ◌≤◌, ◌<◌, Bool, true, false, cond, List, ◌≡◌, refl, sym, ap, ◌∙◌, arith, get_or, length, drop, fold}
use Rattle.policy.specs.Effect.{no_effects}
use Rattle.policy.specs.declared.effect.Effects.{Effects}
use Rattle.policy.specs.declared.epoch.Readings.{Readings}
use Rattle.policy.specs.declared.set.Events.{Events}
use Rattle.operation.specs.Fields.{skip_of}
use Rattle.operation.specs.Said.{says, constants_of}
use Rattle.operation.specs.declared.said.LinePart.{LinePart}
use Rattle.operation.proofs.WholeLaws.{OnLines, in_line_inside, lines_behind, lines_onward}
use Rattle.policy.specs.declared.line.Part.{Part}
use Rattle.run.specs.Run.{ran, rule_test, taking, fetches}
use Rattle.run.specs.Steps.Test.{IsTestIn, AsksNothing}
use Rattle.run.specs.declared.test.Tested.{Tested}
use Rattle.run.proofs.RunLaws.{ran_end, turn, line_here, word_here, goes_onward}

module _ (ev : Events) (rs : Readings) (ws : List ℕ) where
  -- the effects in the end, with those before an index
  abbrev pub effects_from : Effects → ℕ → Effects
  effects_from s at = fold taking s (ran (rule_test ev rs) 0 (drop at ws))

  -- how many words are fetched from an index on
  abbrev pub fetched_from : ℕ → ℕ
  fetched_from at = fetches (ran (rule_test ev rs) 0 (drop at ws))

  -- a run goes on with the word before `behind`, which is one of a whole line or ends the words: the words between `from` and `behind`
  -- are as many as were fetched
  pub record Running (s : Effects) (behind from : ℕ) : Type 0 where
    pub at : ℕ
    pub next : behind ≡ at + 1
    pub lines : OnLines Part.Rules ws at
    pub effects : effects_from s at ≡ effects_from no_effects 0
    pub fetched : from ≤ behind
    pub words : behind + fetched_from at ≡ from + fetched_from 0

module _ {ev : Events} {rs : Readings} {ws : List ℕ} where
  module _ {behind w : ℕ} {s : Effects} {from : ℕ} (g : Running ev rs ws s behind from) (within : behind ≤ length ws) (this : w ≡ get_or ws (behind - 1) 0) where
    abbrev said : LinePart
    said = says w (get_or ws behind 0)

    go_on : (holds : Bool) → holds ≡ rule_test ev rs said → (next : ℕ) → next ≡ behind + constants_of said + cond holds 0 (skip_of w) → OnLines Part.Rules ws next → (s' : Effects) → s' ≡ taking s said
        → (behind' from' : ℕ) → behind' ≡ next + 1 → from' ≡ from + cond holds 0 (skip_of w) → Running ev rs ws s' behind' from'
    unfolding fetches
    go_on holds h next e on s' t behind' from' b f = grind (arith, turn, word_here g.next g.lines within this)

    module _ {t : Tested} (is : IsTestIn ev rs said behind t) where
      next_is : t.next ≡ behind + constants_of said
      next_is = ap (λ (x : Tested). x.next) is.is

      tested : t.holds ≡ rule_test ev rs said
      tested = ap (λ (x : Tested). x.holds) is.is

      -- a test that holds
      pub rules_held : t.holds ≡ true → Running ev rs ws s (t.next + 1) from × (t.next < length ws)
      rules_held e =
          let on = goes_onward g.next g.lines within this is.goes_on in (
            go_on true (sym e ∙ tested) (behind + constants_of said) (omega arith) (record { left = suc on.left; whole = on.whole }) s (sym (is.yields_none s)) _ _ (omega (arith, next_is)) (omega arith),
            omega (arith, next_is, in_line_inside Part.Rules ws _ on),
          )

      -- one that fails
      pub rules_failed : t.holds ≡ false → {m n : ℕ} → m ≡ skip_of w → n ≡ skip_of w → Running ev rs ws s (t.next + 1 + m) (from + n)
      rules_failed e p q = grind (arith, go_on, tested, lines_behind, word_here g.next g.lines within this, line_here g.next g.lines within this, next_is)

    -- a word that asks for none
    pub rules_pass : AsksNothing ev rs said → Running ev rs ws (taking s said) (behind + 1) from
    rules_pass none =
        let on : OnLines Part.Rules ws behind = rw g.next (lines_onward Part.Rules ws g.at w (word_here g.next g.lines within this) (line_here g.next g.lines within this) (rw (← g.next) none.alone)) in
        go_on true (sym none.holds) behind (omega (arith, none.alone)) on _ refl _ _ refl (omega arith)

module _ (ev : Events) (rs : Readings) (ws : List ℕ) (at : ℕ) (past : length ws ≤ at) where
  pub rules_end : (s : Effects) → effects_from ev rs ws s at ≡ s
  rules_end s = ap (fold taking s) (ran_end (rule_test ev rs) ws at past)

  pub rules_end_fetch : fetched_from ev rs ws at ≡ 0
  unfolding fetches
  rules_end_fetch = ap fetches (ran_end (rule_test ev rs) ws at past)
