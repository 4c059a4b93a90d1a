-- A line is judged by running its words: they are read back from the small buffer as they were put there, and they say what the
-- line says.
use Rattle.std.proofs.Common.{ℕ, ◌+◌, ◌*◌, ◌<◌, Bool, true, cond, ◌&&◌, List, [], ◌∷◌, append-nil, ◌≡◌, refl, sym, ap, ◌∙◌, arith, ltb-true, length, replicate, drop, take_at}
use Rattle.std.proofs.lemmas.Bool.{and_from}
use Rattle.std.proofs.lemmas.List.{length-replicate}
use Rattle.policy.proofs.SetLaws.{has_empty, has_insert_same, has_insert_other}
use Rattle.policy.proofs.ValidLaws.{valid_out}
use Rattle.policy.specs.declared.epoch.Epoch.{Epoch}
use Rattle.policy.specs.declared.epoch.Readings.{Readings}
use Rattle.policy.specs.Effect.{effect_number, no_effects, with_effect}
use Rattle.policy.specs.declared.effect.Effect.{Effect}
use Rattle.policy.specs.declared.effect.Effects.{Effects}
use Rattle.policy.specs.Limits.{valid, effect_in_range, ending_in_range}
use Rattle.policy.specs.Line.{PolicyLine, rule, constraint, ending_of}
use Rattle.std.specs.List.{list_all}
use Rattle.policy.specs.Policy.{Policy, Rule, Constraint}
use Rattle.policy.specs.Set.{ActionSet, all_events, has_action, insert_action, actions_below}
use Rattle.policy.specs.declared.number.Action.{Action}
use Rattle.policy.specs.declared.set.Events.{Events}
use Rattle.pdl.specs.Yield.{rule_holds, take_effect, effects_where, effects, constraint_holds, conflict}
use Rattle.word.proofs.WordLaws.{words_append}
use Rattle.word.proofs.WriteLaws.{put_in}
use Rattle.word.specs.Steps.Write.{put_bytes, put_words}
use Rattle.word.specs.Word.{word_limit, Below, bytes_of, words_of, between}
use Rattle.layout.specs.Layout.{line_words, lines_words, rule_part_words, constraint_part_words}
use Rattle.exactness.proofs.ImageLaws.{lines_below}
use Rattle.run.specs.Run.{run_rules, run_constraints}
use Rattle.meaning.proofs.Meaning.{rules_run, constraints_run}
use Rattle.explanation.specs.Why.{causes, is_proposing_rule, is_cancelling_constraint}
use Rattle.explanation.specs.Steps.Sought.{tells, sought_by, Writable}
use Rattle.explanation.specs.declared.find.Sought.{Sought}

-- ---- the small buffer

-- the words are those that were put in
pub words_back : (l : PolicyLine) → Writable l → between 0 (length (line_words l)) (words_of (put_words (replicate 68 0) 0 (line_words l))) ≡ line_words l
unfolding between put_bytes
words_back l w =
    let ws : List ℕ = line_words l in
    let rest : List ℕ = drop (0 * 4 + length (bytes_of ws)) (replicate 68 0) in
    rw (put_in (replicate 68 0) 0 ws (omega (arith, w.few, length-replicate {A = ℕ} 68 0)), words_append ws rest w.small) (take_at ws (words_of rest) (length ws) refl)

-- ---- one line alone

module _ (l : PolicyLine) (v : valid l ≡ true) where
  alone : list_all valid (l ∷ []) ≡ true
  alone = and_from _ _ v refl

  alone_words : lines_words (l ∷ []) ≡ line_words l
  unfolding lines_words
  alone_words = append-nil (line_words l)

  pub line_below : Below word_limit (line_words l)
  line_below i = rw (← alone_words) (lines_below (l ∷ []) alone i)

rule_alone : (r : Rule) → valid (rule r) ≡ true → (ev : Events) (rs : Readings) → run_rules ev rs (line_words (rule r)) ≡ effects (r ∷ []) ev rs
unfolding rule_part_words
rule_alone r v ev rs =
    let p : Policy = record { rules = r ∷ []; constraints = [] } in
    ap (run_rules ev rs) (sym (alone_words (rule r) v)) ∙ rules_run p (alone (rule r) v) ev rs

constraint_alone : (c : Constraint) → valid (constraint c) ≡ true → (rs : Readings) (s : ActionSet) → run_constraints rs s (line_words (constraint c)) ≡ constraint_holds rs s c
unfolding constraint_part_words conflict
constraint_alone c v rs s =
    let p : Policy = record { rules = []; constraints = c ∷ [] } in
    rw (← alone_words (constraint c) v, constraints_run p (alone (constraint c) v) rs s) (grind arith)

-- ---- what is sought

-- an effect alone proposes its action
proposes : (a : Action) (b : Bool) (x : Effect) → effect_number x < 64 → has_action (cond b (with_effect no_effects x) no_effects).actions a ≡ b && causes a x
unfolding causes with_effect effect_number
proposes a b x l = grind (arith, has_empty, has_insert_same, has_insert_other)

-- the rules that propose an action
pub rules_sought : (e : Epoch) (a : Action) (l : PolicyLine) → valid l ≡ true → sought_by (Sought.Proposing a) e l ≡ is_proposing_rule e a l
unfolding sought_by tells is_proposing_rule ending_of effects_where take_effect ending_in_range effect_in_range effect_number
rules_sought e a (constraint c) v = refl
rules_sought e a (rule r) v =
    ap (λ (s : Effects). has_action s.actions a) (rule_alone r v (all_events e.events) e.readings)
    ∙ proposes a (rule_holds (all_events e.events) e.readings r) r.effect (ltb-true (effect_number r.effect) 64 (valid_out (rule r) v).ending)

-- the constraints that hold on a set
pub constraints_sought : (e : Epoch) (accepts : ActionSet) (a : Action) (l : PolicyLine) → valid l ≡ true
    → sought_by (Sought.Violated (insert_action (actions_below accepts a) a)) e l ≡ is_cancelling_constraint e.readings accepts a l
unfolding sought_by tells is_cancelling_constraint ending_of
constraints_sought e accepts a (rule r) v = refl
constraints_sought e accepts a (constraint c) v = constraint_alone c v e.readings (insert_action (actions_below accepts a) a)
