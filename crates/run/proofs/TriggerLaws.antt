-- Laws of going from line to line over the words of rules: of a line, its last word alone yields an effect.
use Rattle.std.proofs.Common.{ℕ, zero, suc, ◌+◌, ◌-◌, ◌<◌, ◌≤◌, Bool, true, false, List, [], ◌∷◌, ◌≡◌, refl, sym, ap, ap₂, ◌∙◌, arith, add-zero, fold, get_or, get_or-drop, length, drop, drop-drop, length-drop}
use Rattle.policy.specs.declared.effect.Effects.{Effects}
use Rattle.policy.specs.declared.line.Part.{Part}
use Rattle.operation.specs.Fields.{skip_of}
use Rattle.operation.specs.Said.{says_by, says, constants_of}
use Rattle.operation.specs.Whole.{ends, ends_line, whole_from, whole_lines}
use Rattle.operation.specs.declared.said.LinePart.{LinePart}
use Rattle.operation.proofs.WholeLaws.{WholeWord, whole_word, word_whole, whole_behind, whole_passed, rest_at}
use Rattle.run.specs.Run.{ran, taking}
use Rattle.run.proofs.RunLaws.{ran_pass}

abbrev every : LinePart → Bool
every said = true

-- the effects in the end of words, with those before them
abbrev pub effects_in : Effects → List ℕ → Effects
effects_in s ws = fold taking s (ran every 0 ws)

-- an effect is the same with any word behind its word
same_effect : (s : Effects) (w k : ℕ) → taking s (says w k) ≡ taking s (says w 0)
unfolding says says_by taking
same_effect s w k = grind arith

-- a word that ends no rule has none
no_effect : (s : Effects) (said : LinePart) → ends_line Part.Rules said ≡ false → taking s said ≡ s
unfolding ends_line ends taking
no_effect s said h = grind arith

-- so many words and one are left of a line
pub record LineEffect (left : ℕ) (ws : List ℕ) : Type 0 where
  pub inside : left < length ws
  pub effects : (s : Effects) → effects_in s ws ≡ effects_in (taking s (says (get_or ws left 0) 0)) (drop (suc left) ws)

module _ (left w : ℕ) (ws : List ℕ) (e : whole_from Part.Rules 0 (suc left) (w ∷ ws) ≡ true) where
  abbrev said : LinePart
  said = says w (get_or ws 0 0)

  here : WholeWord Part.Rules (suc left) w (get_or ws 0 0) ws
  here = whole_word Part.Rules (suc left) w ws e

  size : left ≡ constants_of said + skip_of w
  size = grind (arith, here.here)

  -- it is the last of them
  at_last : ends_line Part.Rules said ≡ true → LineEffect left (w ∷ ws)
  unfolding ran
  at_last q = grind (arith, here, size, same_effect)

  -- or others are left behind it
  behind_it : ends_line Part.Rules said ≡ false → ((n : ℕ) (xs : List ℕ) → n < left → whole_from Part.Rules 0 (suc n) xs ≡ true → LineEffect n xs) → LineEffect left (w ∷ ws)
  unfolding ran
  behind_it q others =
      let some : 0 < skip_of w = grind (arith, here.onward) in
      let one : skip_of w ≡ suc (skip_of w - 1) = omega (arith, some) in
      let next : List ℕ = drop (constants_of said) ws in
      let rest : whole_from Part.Rules 0 (suc (skip_of w - 1)) next ≡ true = rw (← one) (whole_passed Part.Rules (constants_of said) (skip_of w) (constants_of said + skip_of w) ws refl here.rest) in
      let later = others (skip_of w - 1) next (omega (arith, size, some)) rest in
      let at : left ≡ suc (constants_of said + (skip_of w - 1)) = omega (arith, size, some) in
      let behind : constants_of said + suc (skip_of w - 1) ≡ left = omega (arith, size, some) in
      record {
        inside = omega (arith, later.inside, length-drop (constants_of said) ws, size, some);
        effects = λ s.
            ap₂ (λ (n : ℕ) (t : Effects). fold taking t (ran every n ws)) (add-zero (constants_of said)) (no_effect s said q)
            ∙ ap (fold taking s) (ran_pass every (constants_of said) ws) ∙ later.effects s
            ∙ ap₂ (λ (x : ℕ) (xs : List ℕ). effects_in (taking s (says x 0)) xs) (get_or-drop (constants_of said) ws (skip_of w - 1) 0 ∙ ap (λ (n : ℕ). get_or (w ∷ ws) n 0) (sym at))
            (drop-drop (suc (skip_of w - 1)) (constants_of said) ws ∙ ap (λ (n : ℕ). drop n ws) behind);
      }

line_effect : (fuel left : ℕ) (ws : List ℕ) → left < fuel → whole_from Part.Rules 0 (suc left) ws ≡ true → LineEffect left ws
unfolding whole_from
line_effect zero left ws f e = absurd (omega arith)
line_effect (suc fuel) left [] f e = cc
line_effect (suc fuel) left (w ∷ ws) f e =
    elim (ends_line Part.Rules (says w (get_or ws 0 0))) as (λ b. ends_line Part.Rules (says w (get_or ws 0 0)) ≡ b → LineEffect left (w ∷ ws)) [
      | true ↦ at_last left w ws e
      | false ↦ λ q. behind_it left w ws e q (λ n xs h. line_effect fuel n xs (omega arith))
    ] refl

-- from the start of a line, at which so many words are fetched and passed over, to that of the next
pub record LineAt (ws : List ℕ) (at next : ℕ) : Type 0 where
  pub some : at < next
  pub inside : next ≤ length ws
  pub whole : whole_lines Part.Rules (drop next ws) ≡ true
  pub effects : (s : Effects) → effects_in s (drop at ws) ≡ effects_in (taking s (says (get_or ws (next - 1) 0) 0)) (drop next ws)

pub line_at : {ws : List ℕ} {at w fetched skip : ℕ} → at < length ws → w ≡ get_or ws at 0 → ((k : ℕ) → fetched ≡ 1 + constants_of (says w k)) → skip ≡ skip_of w → whole_lines Part.Rules (drop at ws) ≡ true
    → LineAt ws at (at + fetched + skip)
line_at {ws} {at} {w} {fetched} {skip} h this count skips whole =
    let n : ℕ = fetched - 1 + skip in
    let start : drop at ws ≡ w ∷ drop (at + 1) ws = rw this (rest_at ws at h) in
    let first = whole_word Part.Rules 0 w (drop (at + 1) ws) (rw start at whole) in
    let size : n ≡ constants_of (says w (get_or (drop (at + 1) ws) 0 0)) + skip_of w = omega (arith, count (get_or (drop (at + 1) ws) 0 0), skips) in
    let line : whole_from Part.Rules 0 (suc n) (drop at ws) ≡ true = rw start (word_whole Part.Rules (suc n) w (drop (at + 1) ws) (record { here = grind arith; onward = first.onward; rest = first.rest })) in
    let l = line_effect (suc n) n (drop at ws) (omega arith) line in
    let next : at + fetched + skip ≡ at + suc n = omega (arith, count 0) in
    let last : at + suc n - 1 ≡ at + n = omega arith in
    rw next (record {
      some = omega arith;
      inside = omega (arith, l.inside, length-drop at ws);
      whole = rw (← drop-drop (suc n) at ws) (whole_behind Part.Rules 0 (suc n) (drop at ws) line);
      effects = λ s. l.effects s ∙ rw (get_or-drop at ws n 0, drop-drop (suc n) at ws, last) refl;
    })
