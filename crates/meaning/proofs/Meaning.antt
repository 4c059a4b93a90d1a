-- What the words of a policy do when they are run is what the policy yields.
use Rattle.std.proofs.Common.{add_comm, add-one, zero-add, ℕ, ◌+◌, ◌<◌, Bool, true, false, cond, ◌&&◌, ◌||◌, List, [], ◌∷◌, ◌++◌, map, append_assoc, ◌≡◌, refl, sym, ap, ap₂, ◌∙◌, arith, ltb-true, length, drop_at, fold, get_or}
use Rattle.std.proofs.lemmas.Bool.{and_parts}
use Rattle.std.proofs.Math.Bool.{and_assoc}
use Rattle.std.proofs.Math.ListN.{length-map}
use Rattle.policy.specs.Comparison.{comparison_holds}
use Rattle.policy.specs.declared.epoch.Readings.{Readings}
use Rattle.policy.specs.Limits.{valid, test_number, comparison_in_range, ending_in_range}
use Rattle.policy.specs.Line.{rule, constraint, heads_of, comparisons_of, ending_of}
use Rattle.std.specs.List.{list_all, list_any}
use Rattle.policy.specs.Policy.{Policy, Rule, Constraint}
use Rattle.policy.specs.Effect.{no_effects, with_effect}
use Rattle.policy.specs.Set.{ActionSet, has_action}
use Rattle.policy.specs.declared.comparison.Literal.{Literal}
use Rattle.policy.specs.declared.effect.Effects.{Effects}
use Rattle.pdl.specs.Yield.{literal_holds, rule_holds, take_effect, effects_where, effects, reserved, constraint_holds, conflict}
use Rattle.policy.specs.declared.comparison.Comparison.{Comparison}
use Rattle.policy.specs.declared.line.Ending.{Ending}
use Rattle.policy.specs.declared.line.Part.{Part}
use Rattle.policy.specs.declared.line.Test.{Test}
use Rattle.policy.specs.declared.set.Events.{Events}
use Rattle.operation.proofs.PartsLaws.{Written, with_constant, with_reading, written, test_skip}
use Rattle.operation.proofs.SaidLaws.{test_said, ending_said, constant_said, reading_said}
use Rattle.layout.proofs.LayoutLaws.{condition_length, part_length, condition_size_limit}
use Rattle.run.proofs.RunLaws.{ran_pass}
use Rattle.policy.proofs.ValidLaws.{valid_out, test_in_range}
use Rattle.layout.specs.Layout.{condition_words, part_words, line_words, lines_words, rule_part_words, constraint_part_words}
use Rattle.layout.specs.Steps.Size.{comparisons_size, condition_size}
use Rattle.operation.specs.Parts.{test_word, comparison_words, ending_word}
use Rattle.operation.specs.Said.{says, constants_of}
use Rattle.operation.specs.declared.said.LinePart.{LinePart}
use Rattle.run.specs.Run.{passes, ran, rule_test, constraint_test, taking, run_rules, reserved_by, ends_constraint, run_constraints}
use Rattle.operation.specs.Fields.{skip_of}

-- ---- a line, for any way to take together what is run that heads and comparisons leave as it is

module _ {A : Type 0} (test : LinePart → Bool) (together : List LinePart → A)
    (head : (t : Test) (ps : List LinePart) → together (LinePart.Head t ∷ ps) ≡ together ps)
    (comparison : (c : Comparison) (ps : List LinePart) → together (LinePart.Comparison c ∷ ps) ≡ together ps)
    (ending : Ending) (sound : ending_in_range ending ≡ true) (untested : test (LinePart.Ending ending) ≡ true)
    (final : List LinePart → A) (ends : (ps : List LinePart) → together (LinePart.Ending ending ∷ ps) ≡ final ps) where
  abbrev run : ℕ → List ℕ → A
  run n ws = together (ran test n ws)

  -- what a line yields that holds or not, with what stands behind it
  abbrev yields : Bool → List ℕ → A
  yields holds rest = cond holds (final (ran test 0 rest)) (run 0 rest)

  ran_by : (w : ℕ) (ws : List ℕ) (p : LinePart) → says w (get_or ws 0 0) ≡ p → ran test 0 (w ∷ ws) ≡ p ∷ ran test (passes (test p) p w) ws
  unfolding ran
  ran_by w ws p e = ap (λ (x : LinePart). x ∷ ran test (passes (test x) x w) ws) e

  -- a test before the rest of its line: the line goes on where it holds, and is left where it fails
  after_test : (holds : Bool) (skip : ℕ) (tail rest : List ℕ) (others : Bool) → skip ≡ length tail → run 0 (tail ++ rest) ≡ yields others rest
      → run (cond holds 0 skip) (tail ++ rest) ≡ yields (holds && others) rest
  after_test true skip tail rest others e h = h
  after_test false skip tail rest others e h = ap together (ran_pass test skip (tail ++ rest)) ∙ ap (run 0) (drop_at tail rest skip (sym e))

  comparison_run : (c : Comparison) (k : ℕ) (ws : List ℕ) → Written c k → run 0 (comparison_words c k ++ ws) ≡ run (cond (test (LinePart.Comparison c)) 0 k) ws
  unfolding ran
  comparison_run c k ws (with_constant w v e o s b _ _) =
      let said = constant_said c w v o b in
      ap (λ (l : List ℕ). run 0 (l ++ ws)) e ∙ ap together (ran_by w (v ∷ ws) (LinePart.Comparison c) said.0) ∙ comparison c _
      ∙ ap (λ (n : ℕ). run n (v ∷ ws)) (ap₂ (λ (x y : ℕ). x + cond (test (LinePart.Comparison c)) 0 y) said.1 s ∙ add_comm 1 _ ∙ add-one _)
  comparison_run c k ws (with_reading w e o s b _ _) =
      let said = reading_said c w (get_or ws 0 0) o b in
      ap (λ (l : List ℕ). run 0 (l ++ ws)) e ∙ ap together (ran_by w ws (LinePart.Comparison c) said.0) ∙ comparison c _
      ∙ ap (λ (n : ℕ). run n ws) (ap₂ (λ (x y : ℕ). x + cond (test (LinePart.Comparison c)) 0 y) said.1 s ∙ zero-add _)

  condition_run : (cs : List Comparison) (rest : List ℕ) → list_all comparison_in_range cs ≡ true → condition_size cs < 32
      → run 0 (condition_words cs ending ++ rest) ≡ yields (list_all (λ (c : Comparison). test (LinePart.Comparison c)) cs) rest
  unfolding condition_words condition_size comparisons_size constants_of
  condition_run [] rest r l =
      ap together (ran_by (ending_word ending) rest (LinePart.Ending ending) (ending_said ending (get_or rest 0 0) sound))
      ∙ ap (λ (b : Bool). together (LinePart.Ending ending ∷ ran test (passes b (LinePart.Ending ending) (ending_word ending)) rest)) untested ∙ ends _
  condition_run (c ∷ cs) rest r l =
      let tail : List ℕ = condition_words cs ending in
      let p = and_parts (comparison_in_range c) (list_all comparison_in_range cs) r in
      let small : length tail < 32 = omega (arith, condition_length cs ending) in
      ap (run 0) (append_assoc (comparison_words c (length tail)) tail rest)
      ∙ comparison_run c (length tail) (tail ++ rest) (written c (length tail) p.0 small)
      ∙ after_test (test (LinePart.Comparison c)) (length tail) tail rest (list_all (λ (x : Comparison). test (LinePart.Comparison x)) cs) refl (condition_run cs rest p.1 (omega arith))

  module _ {X : Type 0} (wrap : X → Test) (cs : List Comparison) where
    heads_run : (xs : List X) (rest : List ℕ) → list_all test_in_range (map wrap xs) ≡ true → list_all comparison_in_range cs ≡ true → length xs + condition_size cs < 32
        → run 0 (part_words (map wrap xs) cs ending ++ rest) ≡ yields (list_all (λ (x : X). test (LinePart.Head (wrap x))) xs && list_all (λ (c : Comparison). test (LinePart.Comparison c)) cs) rest
    unfolding part_words constants_of
    heads_run [] rest t r l = condition_run cs rest r (omega arith)
    heads_run (x ∷ xs) rest t r l =
        let tail : List ℕ = part_words (map wrap xs) cs ending in
        let w : ℕ = test_word (wrap x) (length tail) in
        let p = and_parts (test_in_range (wrap x)) (list_all test_in_range (map wrap xs)) t in
        let n : test_number (wrap x) < 64 = ltb-true (test_number (wrap x)) 64 p.0 in
        let k : length tail < 32 = omega (arith, part_length (map wrap xs) cs ending, length-map xs wrap) in
        ap together (ran_by w (tail ++ rest) (LinePart.Head (wrap x)) (test_said (wrap x) (length tail) (get_or (tail ++ rest) 0 0) n k)) ∙ head (wrap x) _
        ∙ ap (λ (m : ℕ). run m (tail ++ rest)) (zero-add _)
        ∙ after_test (test (LinePart.Head (wrap x))) (skip_of w) tail rest _ (test_skip (wrap x) (length tail) n k) (heads_run xs rest p.1 r (omega arith))
        ∙ ap (λ (b : Bool). yields b rest) (sym (and_assoc (test (LinePart.Head (wrap x))) _ _))

-- ---- rules

-- for any test of what words say, and of rules, which agree
module _ (test : LinePart → Bool) (untested : (e : Ending) → test (LinePart.Ending e) ≡ true) (holds : Rule → Bool)
    (same : (r : Rule) → list_all (λ (l : Literal). test (LinePart.Head (Test.Occurs l))) r.literals && list_all (λ (c : Comparison). test (LinePart.Comparison c)) r.comparisons ≡ holds r) where
  -- the effects in the end, with those so far
  abbrev more : Effects → List ℕ → Effects
  more s ws = fold taking s (ran test 0 ws)

  either : (b : Bool) (s t : Effects) (ws : List ℕ) → cond b (more t ws) (more s ws) ≡ more (cond b t s) ws
  either b s t ws = grind arith

  rule_run : (s : Effects) (r : Rule) (rest : List ℕ) → valid (rule r) ≡ true → more s (line_words (rule r) ++ rest) ≡ more (take_effect holds s r) rest
  unfolding line_words heads_of comparisons_of ending_of take_effect taking
  rule_run s r rest v =
      let h = valid_out (rule r) v in
      let c = condition_size_limit r.comparisons in
      heads_run test (fold taking s) (λ t ps. refl) (λ c ps. refl) (Ending.Yields r.effect) h.ending (untested (Ending.Yields r.effect))
      (fold taking (with_effect s r.effect)) (λ ps. refl) Test.Occurs r.comparisons r.literals rest h.tests h.comparisons
      (omega (arith, h.few_tests, h.few_comparisons, length-map r.literals Test.Occurs))
      ∙ ap (λ (b : Bool). cond b (more (with_effect s r.effect) rest) (more s rest)) (same r) ∙ either (holds r) s (with_effect s r.effect) rest

  rules_run_from : (rules : List Rule) (s : Effects) → list_all valid (map rule rules) ≡ true → more s (lines_words (map rule rules)) ≡ fold (take_effect holds) s rules
  unfolding lines_words ran
  rules_run_from [] s v = refl
  rules_run_from (r ∷ rest) s v =
      let p = and_parts (valid (rule r)) (list_all valid (map rule rest)) v in
      rule_run s r (lines_words (map rule rest)) p.0 ∙ rules_run_from rest (take_effect holds s r) p.1

-- running a policy's rule words yields the effects of its rules, on any events and readings
pub rules_run : (p : Policy) → list_all valid (map rule p.rules) ≡ true → (ev : Events) (rs : Readings) → run_rules ev rs (rule_part_words p) ≡ effects p.rules ev rs
unfolding rule_part_words effects_where run_rules rule_test rule_holds literal_holds
rules_run p v ev rs = rules_run_from (rule_test ev rs) (λ e. refl) (rule_holds ev rs) (λ r. refl) p.rules no_effects v

all_hold : {A : Type 0} (xs : List A) → list_all (λ (x : A). true) xs ≡ true
all_hold [] = refl
all_hold (x ∷ xs) = all_hold xs

-- and the events that they trigger where each test holds are those that its rules trigger
pub reserved_run : (p : Policy) → list_all valid (map rule p.rules) ≡ true → reserved_by (rule_part_words p) ≡ reserved p.rules
unfolding rule_part_words effects_where reserved_by
reserved_run p v = ap (λ (x : Effects). x.events) (rules_run_from (λ said. true) (λ e. refl) (λ r. true) (λ r. ap₂ ◌&&◌ (all_hold r.literals) (all_hold r.comparisons)) p.rules no_effects v)

-- ---- constraints

module _ (rs : Readings) (s : ActionSet) where
  abbrev holds : List ℕ → Bool
  holds ws = list_any ends_constraint (ran (constraint_test rs s) 0 ws)

  either_holds : (b c : Bool) → cond b true c ≡ b || c
  either_holds b c = grind arith

  constraint_run : (c : Constraint) (rest : List ℕ) → valid (constraint c) ≡ true → holds (line_words (constraint c) ++ rest) ≡ constraint_holds rs s c || holds rest
  unfolding line_words heads_of comparisons_of ending_of constraint_holds constraint_test ends_constraint
  constraint_run c rest v =
      let h = valid_out (constraint c) v in
      let l = condition_size_limit c.comparisons in
      heads_run (constraint_test rs s) (list_any ends_constraint) (λ t ps. refl) (λ c ps. refl) Ending.Never h.ending refl
      (λ ps. true) (λ ps. refl) Test.Member c.comparisons c.actions rest h.tests h.comparisons
      (omega (arith, h.few_tests, h.few_comparisons, length-map c.actions Test.Member))
      ∙ either_holds (list_all (has_action s) c.actions && list_all (comparison_holds Part.Constraints rs) c.comparisons) (holds rest)

  constraints_run_all : (cs : List Constraint) → list_all valid (map constraint cs) ≡ true → holds (lines_words (map constraint cs)) ≡ list_any (constraint_holds rs s) cs
  unfolding lines_words ran
  constraints_run_all [] v = refl
  constraints_run_all (c ∷ cs) v =
      let p = and_parts (valid (constraint c)) (list_all valid (map constraint cs)) v in
      constraint_run c (lines_words (map constraint cs)) p.0 ∙ ap (λ (b : Bool). constraint_holds rs s c || b) (constraints_run_all cs p.1)

-- running a policy's constraint words on a set of actions says whether some constraint holds on it
pub constraints_run : (p : Policy) → list_all valid (map constraint p.constraints) ≡ true → (rs : Readings) (s : ActionSet) → run_constraints rs s (constraint_part_words p) ≡ conflict p.constraints rs s
unfolding constraint_part_words conflict run_constraints
constraints_run p v rs s = constraints_run_all rs s p.constraints v
