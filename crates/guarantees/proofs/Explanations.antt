-- When an action is explained, what is told of it, and which part of which text is shown.
use Rattle.std.proofs.Common.{ℕ, ◌<◌, ◌≤◌, ⊎_elim, Bool, true, false, List, [], ◌∷◌, ◌++◌, Contains, ◌↔◌, ◌≡◌, refl, sym, ap, ◌∙◌, subst, arith, lt-ltb, le-ltb, Result, Some, Ok, Err}
use Rattle.std.proofs.lemmas.Bool.{and_from, and_parts}
use Rattle.std.specs.Result.{result_ok}
use Rattle.std.proofs.Math.Path.{subst⁻¹}
use Rattle.std.proofs.lemmas.Bool.Decides.{nat_tests}
use Rattle.policy.proofs.ListLaws.{contains_first, contains_one}
use Rattle.policy.specs.declared.epoch.Epoch.{Epoch}
use Rattle.policy.specs.Fault.{refusal}
use Rattle.policy.specs.Line.{PolicyLine, rule, constraint}
use Rattle.policy.specs.Number.{set_limit}
use Rattle.policy.proofs.ResultLaws.{known, and_then_ok, and_then_err}
use Rattle.policy.specs.Policy.{Policy}
use Rattle.policy.specs.Result.{result_and_then}
use Rattle.policy.specs.declared.effect.Effect.{Effect}
use Rattle.policy.specs.Set.{ActionSet, EventSet, all_events, has_action}
use Rattle.policy.specs.declared.fault.Fault.{Fault}
use Rattle.policy.specs.declared.fault.Refusal.{Refusal}
use Rattle.policy.specs.declared.number.Action.{Action}
use Rattle.pdl.proofs.Monitor.{accepted_within, cancelled_apart, cancelled_trial}
use Rattle.pdl.proofs.Proposals.{rule_holds_is, rule_derives, proposals_derived}
use Rattle.pdl.proofs.Resolution.{holds_in, holds_out}
use Rattle.pdl.specs.Answer.{Answer}
use Rattle.pdl.specs.Pdl.{Derives}
use Rattle.pdl.specs.Yield as Yield
use Rattle.epoch_line.specs.Epoch.{read_epoch}
use Rattle.acceptance.proofs.Forms.{texts_newer}
use Rattle.acceptance.proofs.Texts.{site_empty}
use Rattle.codegen.specs.Compile.{newest_form}
use Rattle.guarantees.specs.Machine.{on_named, next_epoch}
use Rattle.rule_text.specs.Text.{read_text, read_texts, policy_of_texts}
use Rattle.codegen.specs.Steps.Put.{lines_of_both}
use Rattle.monitor.specs.Decision.{decision, answer_of}
use Rattle.explanation.specs.Part.{Stretch, Quote, of_maker, of_site}
use Rattle.explanation.specs.Why.{causes, is_proposing_rule, is_cancelling_constraint, Explanation, not_proposed, accepted_by, cancelled_by, explanation_for, on_action, on_events, on_epoch, explained, quoted}
use Rattle.guarantees.proofs.Decisions.{written_yields}
use Rattle.guarantees.proofs.Agreement.{image_of_texts, alone_writes}
use Rattle.guarantees.proofs.FirstLaws.{Both, both, listed_line, FirstShown, first_line}
use Rattle.guarantees.specs.Claims.{CompilesTo, TextsCompileTo}
use Rattle.guarantees.specs.Decisions.{yield_of}
use Rattle.guarantees.specs.Explanations.{action, IsExplainable, Unexplained, the_texts, the_line, the_action, TellsOutcome, Proposes, Cancels, QuotedStraight, FirstLine}

-- ---- what is said of an action

module _ (maker site : List ℕ) (p : Policy) (e : Epoch) (a : Action) where
  abbrev explanation : Explanation
  explanation = explanation_for maker site (Yield.accepted p e) (Yield.cancelled p e) e a

-- ---- when there is an explanation

module _ (maker site : List ℕ) (pending : EventSet) (line : List ℕ) (n : ℕ) where
  abbrev by_texts : Result Policy Refusal → Result Explanation Refusal
  by_texts read = result_and_then (λ (p : Policy). on_epoch maker site p pending n (read_epoch line)) read

  -- the answer, case by case
  on_texts : (p : Policy) → policy_of_texts newest_form maker site ≡ Some p → explained maker site pending line n ≡ on_epoch maker site p pending n (read_epoch line)
  unfolding explained
  on_texts p e = ap by_texts (known (read_texts newest_form maker site) p e)

  -- of the epoch of the line, or for what there is none
  -- of the epoch of the line, or for what there is none
  on_next : (p : Policy) → on_epoch maker site p pending n (read_epoch line) ≡ result_and_then (on_events maker site p n) (next_epoch p pending line)
  unfolding on_epoch next_epoch on_named
  on_next p = grind arith

  on_line : (p : Policy) → policy_of_texts newest_form maker site ≡ Some p → explained maker site pending line n ≡ result_and_then (on_events maker site p n) (next_epoch p pending line)
  on_line p q = on_texts p q ∙ on_next p

  explanation_is : (q : IsExplainable maker site pending line n) → explained maker site pending line n ≡ Ok (explanation maker site q.policy q.epoch (action n))
  unfolding on_events on_action
  explanation_is q = on_line q.policy q.both ∙ rw (q.read, lt-ltb n 64 q.number)

  unexplained : (r : Refusal) → Unexplained maker site pending line n r → explained maker site pending line n ≡ Err r
  unfolding explained on_events on_action
  unexplained r (the_texts q) = ap by_texts q
  unexplained r (the_line p q k) = on_line p q ∙ rw k
  unexplained r (the_action p q e k over w) = on_line p q ∙ rw (k, le-ltb n 64 over, w)

  module _ (p : Policy) (e : Epoch) where
    number_fits : (why : Explanation) → on_events maker site p n e ≡ Ok why → n < set_limit
    unfolding on_events on_action
    number_fits why h = grind (arith, nat_tests)

    number_over : (r : Refusal) → on_events maker site p n e ≡ Err r → (set_limit ≤ n) × (r ≡ refusal Fault.EpochRange 0)
    unfolding on_events on_action
    number_over r h = grind (arith, nat_tests)

  -- an explanation is refused exactly for these, in this order
  pub explained_refused : (r : Refusal) → (explained maker site pending line n ≡ Err r) ↔ Unexplained maker site pending line n r
  unfolding explained
  explained_refused r = (λ h. ⊎_elim the_texts (λ t. past t.0 (ap result_ok t.1) t.2) (and_then_err _ (read_texts newest_form maker site) r h), unexplained r)
    where
      past : (p : Policy) → policy_of_texts newest_form maker site ≡ Some p → on_epoch maker site p pending n (read_epoch line) ≡ Err r → Unexplained maker site pending line n r
      past p q h =
          ⊎_elim (the_line p q) (λ e. let o = number_over p e.0 r e.2 in the_action p q e.0 e.1 o.0 o.1)
          (and_then_err (on_events maker site p n) (next_epoch p pending line) r (sym (on_next p) ∙ h))

  -- and there is one exactly where the texts, the line and the number pass
  pub explained_exactly : ((why : Explanation) × (explained maker site pending line n ≡ Ok why)) ↔ IsExplainable maker site pending line n
  unfolding explained
  explained_exactly = (there, λ q. (_, explanation_is q))
    where
      there : (why : Explanation) × (explained maker site pending line n ≡ Ok why) → IsExplainable maker site pending line n
      there (why, h) =
          let t = and_then_ok _ (read_texts newest_form maker site) why h in
          let e = and_then_ok (on_events maker site t.0 n) (next_epoch t.0 pending line) why (sym (on_next t.0) ∙ t.2) in
          record { policy = t.0; both = ap result_ok t.1; epoch = e.0; read = e.1; number = number_fits t.0 e.0 why e.2 }

-- ---- which lines say so

causes_is : (a : Action) (x : Effect) → causes a x ≡ true → x ≡ Effect.Causes a
unfolding causes
causes_is a x h = grind (arith, nat_tests)

causes_own : (a : Action) → causes a (Effect.Causes a) ≡ true
unfolding causes
causes_own a = grind (arith, nat_tests)

-- a line passes a test of the definitions exactly where it says so in the terms of specs/Pdl of `pdl`
proposed_means : (e : Epoch) (a : Action) → a.0 < 64 → (l : PolicyLine) → (is_proposing_rule e a l ≡ true) ↔ Proposes e a l
unfolding is_proposing_rule
proposed_means e a small l = grind (arith, and_parts, causes_is, rule_derives, contains_first, contains_one, and_from, rule_holds_is, causes_own)

cancelled_means : (e : Epoch) (accepts : ActionSet) (a : Action) (l : PolicyLine) → (is_cancelling_constraint e.readings accepts a l ≡ true) ↔ Cancels e accepts a l
unfolding is_cancelling_constraint
cancelled_means e accepts a l = grind (arith, holds_out, holds_in)

-- ---- what is told, and what is shown

module _ (maker site : List ℕ) (p : Policy) (e : Epoch) (a : Action) (small : a.0 < 64) (b : Both maker site p) where
  -- for an accepted action the first rule that proposed it
  by_rule : has_action (Yield.accepted p e) a ≡ true → FirstShown (is_proposing_rule e a) (Proposes e a) p maker site
  by_rule k =
      let d = (proposals_derived p.rules (all_events e.events) e.readings a small).0 (accepted_within p e a k) in
      let m : Contains (lines_of_both newest_form maker site) (rule d.rule) = listed_line (lines_of_both newest_form maker site) (rule d.rule) (rw b.rules d.listed) in
      let alone : Derives (d.rule ∷ []) (all_events e.events) e.readings (Effect.Causes a) = record { rule = d.rule; listed = contains_first d.rule []; effect = d.effect; event = d.event; condition = d.condition } in
      let means = proposed_means e a small in
      first_line (is_proposing_rule e a) (Proposes e a) means maker site p b (rule d.rule) m ((means (rule d.rule)).1 alone)

  -- for a cancelled one the first constraint that held on the lower-numbered accepted actions together with it
  by_constraint : has_action (Yield.cancelled p e) a ≡ true → FirstShown (is_cancelling_constraint e.readings (Yield.accepted p e) a) (Cancels e (Yield.accepted p e) a) p maker site
  by_constraint k =
      let v = cancelled_trial p e a k in
      let m : Contains (lines_of_both newest_form maker site) (constraint v.constraint) = listed_line (lines_of_both newest_form maker site) (constraint v.constraint) (rw b.constraints v.listed) in
      let means = cancelled_means e (Yield.accepted p e) a in
      first_line (is_cancelling_constraint e.readings (Yield.accepted p e) a) (Cancels e (Yield.accepted p e) a) means maker site p b (constraint v.constraint) m
      ((means (constraint v.constraint)).1 v.holds)

  data Explains (x : Explanation) : Type 0 where
    of_accepted : has_action (Yield.accepted p e) a ≡ true → (s : Quote) → x ≡ accepted_by s → FirstLine (Proposes e a) p maker site s → Explains x
    of_cancelled : has_action (Yield.cancelled p e) a ≡ true → (s : Quote) → x ≡ cancelled_by s → FirstLine (Cancels e (Yield.accepted p e) a) p maker site s → Explains x
    of_neither : has_action (Yield.accepted p e) a ≡ false → has_action (Yield.cancelled p e) a ≡ false → x ≡ not_proposed → Explains x

  case_of : Explains (explanation maker site p e a)
  unfolding explanation_for
  case_of = go (has_action (Yield.accepted p e) a) (has_action (Yield.cancelled p e) a) refl refl
    where
      go : (x y : Bool) → has_action (Yield.accepted p e) a ≡ x → has_action (Yield.cancelled p e) a ≡ y → Explains (explanation maker site p e a)
      go true y h k = let f = by_rule h in of_accepted h f.shown (rw (h, f.found)) f.line
      go false true h k = let f = by_constraint k in of_cancelled k f.shown (rw (h, k, f.found)) f.line
      go false false h k = of_neither h k (rw (h, k))

  not_both : has_action (Yield.accepted p e) a ≡ true → has_action (Yield.cancelled p e) a ≡ false
  not_both h = grind (arith, cancelled_apart p e a)

  tells : (x : Explanation) → Explains x → TellsOutcome (yield_of p e) a x
  tells x f = grind (arith, not_both, cancelled_apart p e a)

  straight : (Says : PolicyLine → Type 0) (s : Quote) → FirstLine Says p maker site s → QuotedStraight maker site s
  straight Says (of_maker x) f = f.straight
  straight Says (of_site x) f = f.1.straight

  shows_rule : (x : Explanation) → Explains x → (shown : Quote) → x ≡ accepted_by shown → FirstLine (Proposes e a) p maker site shown
  shows_rule x f shown k = grind arith

  shows_constraint : (x : Explanation) → Explains x → (shown : Quote) → x ≡ cancelled_by shown → FirstLine (Cancels e (Yield.accepted p e) a) p maker site shown
  shows_constraint x f shown k = grind arith

  shows_straight : (x : Explanation) → Explains x → (shown : Quote) → quoted x ≡ Some shown → QuotedStraight maker site shown
  shows_straight x f shown k = grind (arith, straight)

module _ (maker site : List ℕ) (pending : EventSet) (line : List ℕ) (n : ℕ) (q : IsExplainable maker site pending line n) where
  -- the sets that the policy of both texts yields are those of the decision on the image of both
  pub asked_decided : (form : ℕ) (image : List ℕ) → TextsCompileTo form maker site image → answer_of (decision image pending line) ≡ yield_of q.policy q.epoch
  asked_decided form image c =
      let t = image_of_texts form maker site image c in
      let newer = texts_newer form newest_form refl maker site t.policy (known (read_texts form maker site) t.policy t.read) in
      let k : Some q.policy ≡ Some t.policy = sym q.both ∙ ap result_ok newer in
      let same : t.policy ≡ q.policy = cc in
      ap (λ (x : List ℕ). answer_of (decision x pending line)) t.same
      ∙ written_yields form t.form_known t.policy t.acceptable pending line q.epoch (ap (λ (p : Policy). next_epoch p pending line) same ∙ q.read)
      ∙ ap (λ (p : Policy). yield_of p q.epoch) same

  lines : Both maker site q.policy
  lines = both maker site q.policy (known (read_texts newest_form maker site) q.policy q.both)

  abbrev said : Explanation
  said = explanation maker site q.policy q.epoch (action n)

  how : Explains maker site q.policy q.epoch (action n) q.number lines said
  how = case_of maker site q.policy q.epoch (action n) q.number lines

  said_is : (why : Explanation) → explained maker site pending line n ≡ Ok why → said ≡ why
  said_is why h = let k = explanation_is maker site pending line n q in cc

  asked_told : (why : Explanation) → explained maker site pending line n ≡ Ok why → TellsOutcome (yield_of q.policy q.epoch) (action n) why
  asked_told why h = subst (TellsOutcome (yield_of q.policy q.epoch) (action n)) (said_is why h) (tells maker site q.policy q.epoch (action n) q.number lines said how)

  pub accepted_shown : (shown : Quote) → explained maker site pending line n ≡ Ok (accepted_by shown) → FirstLine (Proposes q.epoch (action n)) q.policy maker site shown
  accepted_shown shown h = shows_rule maker site q.policy q.epoch (action n) q.number lines said how shown (said_is (accepted_by shown) h)

  pub cancelled_shown : (shown : Quote) → explained maker site pending line n ≡ Ok (cancelled_by shown)
      → FirstLine (Cancels q.epoch (Yield.accepted q.policy q.epoch) (action n)) q.policy maker site shown
  cancelled_shown shown h = shows_constraint maker site q.policy q.epoch (action n) q.number lines said how shown (said_is (cancelled_by shown) h)

-- what is shown stands in the text that it is from, with no space at either end and no line end
pub shown_straight : (maker site : List ℕ) (pending : EventSet) (line : List ℕ) (n : ℕ) (why : Explanation) (shown : Quote) → explained maker site pending line n ≡ Ok why → quoted why ≡ Some shown → QuotedStraight maker site shown
shown_straight maker site pending line n why shown h k =
    let q = (explained_exactly maker site pending line n).0 (why, h) in
    shows_straight maker site q.policy q.epoch (action n) q.number (lines maker site pending line n q) (said maker site pending line n q) (how maker site pending line n q) shown
    (ap quoted (said_is maker site pending line n q why h) ∙ k)

-- what is told is membership in the accepted and the cancelled set of the decision on the image of both texts
pub outcome_told : (maker site : List ℕ) (pending : EventSet) (line : List ℕ) (n : ℕ) (why : Explanation) → explained maker site pending line n ≡ Ok why
    → (form : ℕ) (image : List ℕ) → TextsCompileTo form maker site image → TellsOutcome (answer_of (decision image pending line)) (action n) why
outcome_told maker site pending line n why h form image c =
    let q = (explained_exactly maker site pending line n).0 (why, h) in
    subst⁻¹ (λ (x : Answer). TellsOutcome x (action n) why) (asked_decided maker site pending line n q form image c) (asked_told maker site pending line n q why h)

-- ---- where the site's text is empty

no_part : (before part behind : List ℕ) → [] ≡ before ++ (part ++ behind) → part ≡ []
no_part [] [] behind e = refl
no_part [] (b ∷ part) behind e = cc
no_part (b ∷ before) part behind e = cc

module _ (maker : List ℕ) (pending : EventSet) (line : List ℕ) (n : ℕ) where
  -- the answer, refused or not, is by what was read of the maker's text alone
  pub explained_alone : explained maker [] pending line n ≡ by_texts maker [] pending line n (read_text newest_form maker)
  unfolding explained
  explained_alone = ap (by_texts maker [] pending line n) (site_empty newest_form maker)

  -- what is told is the decision's on the image of the maker's text
  pub alone_told : (why : Explanation) → explained maker [] pending line n ≡ Ok why → (form : ℕ) (image : List ℕ) → CompilesTo form maker image → TellsOutcome (answer_of (decision image pending line)) (action n) why
  alone_told why h form image c = outcome_told maker [] pending line n why h form image ((alone_writes form maker image).0 c)

  -- and what is shown is the maker's
  pub alone_shown : (why : Explanation) (shown : Quote) → explained maker [] pending line n ≡ Ok why → quoted why ≡ Some shown → (x : Stretch) × (shown ≡ of_maker x)
  alone_shown why shown h k = go shown (shown_straight maker [] pending line n why shown h k)
    where
      go : (s : Quote) → QuotedStraight maker [] s → (x : Stretch) × (s ≡ of_maker x)
      go (of_maker x) f = (x, refl)
      go (of_site x) f = absurd (f.some (no_part f.before x.bytes f.behind f.whole))
