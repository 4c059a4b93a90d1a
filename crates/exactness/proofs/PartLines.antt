-- The lines of a part: all that are written are found, and what is found was written.
use Rattle.std.proofs.Common.{ℕ, zero, suc, ◌+◌, ◌*◌, ◌≤◌, ◌<◌, true, List, [], ◌∷◌, ◌++◌, map, append_assoc, ◌⊎◌, inl, inr, ◌↔◌, ◌≡◌, refl, sym, ap, ◌∙◌, add-zero, arith, length, drop, length-append, drop_at, Result, Ok, Err, Option, Some, None}
use Rattle.std.proofs.lemmas.Bool.{and_from, and_parts}
use Rattle.policy.specs.Limits.{allowed, valid}
use Rattle.policy.specs.Line.{PolicyLine, rule, constraint}
use Rattle.std.specs.List.{list_all}
use Rattle.policy.specs.Policy.{Rule, Constraint}
use Rattle.decode.proofs.DecodeLaws.{line_in_is, line_out, line_found_exactly}
use Rattle.layout.proofs.LayoutLaws.{part_length, condition_size_limit}
use Rattle.decode.proofs.FoundLaws.{line_some}
use Rattle.policy.proofs.ValidLaws.{valid_out}
use Rattle.image.specs.Held.{rules_in, constraints_in}
use Rattle.layout.specs.Layout.{line_words, lines_words}
use Rattle.decode.specs.Decode.{line_at}
use Rattle.decode.specs.Stands.{in_part, Stands, AreLines}
use Rattle.image.specs.Lines.{add_line, after_line, lines_from}
use Rattle.image.proofs.HeldLaws.{after_err, lines_written}
use Rattle.image.proofs.PartLaws.{lines_next}
use Rattle.exactness.specs.ImageFault.{NoLineAt}
use Rattle.policy.specs.declared.line.Part.{Part}

-- ---- how long lines are

pub line_limit_is : (l : PolicyLine) → valid l ≡ true → length (line_words l) ≤ 17
unfolding line_words
line_limit_is l v = grind (arith, valid_out, part_length, condition_size_limit)

pub lines_limit : (ls : List PolicyLine) → list_all valid ls ≡ true → length (lines_words ls) ≤ 17 * length ls
unfolding lines_words
lines_limit [] v = omega arith
lines_limit (l ∷ ls) v = grind (arith, and_parts, line_limit_is, length-append, lines_limit ls)

-- ---- all that are written are found

module _ (form : ℕ) (part : Part) where
  -- a line that stands there, and what follows it
  line_step : (room at : ℕ) (l : PolicyLine) (rest : List ℕ) → in_part form part l ≡ true → valid l ≡ true → lines_from form part (suc room) at (line_words l ++ rest) ≡ add_line l (lines_from form part room (at + length (line_words l)) rest)
  unfolding after_line
  line_step room at l rest k v = grind (arith, lines_next, length-append, line_some, line_in_is, drop_at)

  pub lines_found : (ls : List PolicyLine) (room at : ℕ) → list_all (in_part form part) ls ≡ true → list_all valid ls ≡ true → length ls ≤ room → lines_from form part room at (lines_words ls) ≡ Ok ls
  unfolding lines_words lines_from add_line
  lines_found [] zero at k v h = refl
  lines_found [] (suc room) at k v h = refl
  lines_found (l ∷ ls) zero at k v h = absurd (omega arith)
  lines_found (l ∷ ls) (suc room) at k v h = grind (arith, and_parts, line_step, lines_found ls room)

  -- ---- where none fits

  fault_here : (room at location : ℕ) (ws : List ℕ) → location ≡ at → 0 < length ws → (0 ≡ room) ⊎ ((l : PolicyLine) → ¬ Stands form part ws l) → NoLineAt form part room at ws location
  unfolding lines_words
  fault_here room at location ws e h n =
      record { front = []; before = []; lines = record { kind = refl; sound = refl; few = omega arith; words = refl }; rest = ws; words = refl; located = e ∙ sym (add-zero at); more = h; none_fits = n }

  fault_later : (room at location : ℕ) (ws : List ℕ) (l : PolicyLine) → Stands form part ws l → NoLineAt form part room (at + length (line_words l)) (drop (length (line_words l)) ws) location → NoLineAt form part (suc room) at ws location
  unfolding lines_words
  fault_later room at location ws l s h =
      record {
        front = line_words l ++ h.front;
        before = l ∷ h.before;
        lines = record { kind = and_from _ _ s.kind h.lines.kind; sound = and_from _ _ s.sound h.lines.sound; few = omega (arith, h.lines.few); words = ap (λ (x : List ℕ). line_words l ++ x) h.lines.words };
        rest = h.rest;
        words = s.words ∙ ap (λ (x : List ℕ). line_words l ++ x) h.words ∙ sym (append_assoc (line_words l) h.front h.rest);
        located = omega (arith, h.located, length-append (line_words l) h.front);
        more = h.more;
        none_fits = one_more h.none_fits;
      }
    where
      one_more : {A : Type 0} → (length h.before ≡ room) ⊎ A → (suc (length h.before) ≡ suc room) ⊎ A
      one_more (inl q) = inl (ap suc q)
      one_more (inr q) = inr q

  pub lines_fault : (room at location : ℕ) (ws : List ℕ) → lines_from form part room at ws ≡ Err location → NoLineAt form part room at ws location
  unfolding lines_from
  lines_fault zero at location [] e = cc
  lines_fault zero at location (w ∷ ws) e = fault_here zero at location (w ∷ ws) (cc) (omega arith) (inl refl)
  lines_fault (suc room) at location [] e = cc
  lines_fault (suc room) at location (w ∷ ws) e = go (after_err at location (line_at form part (w ∷ ws)) next e) (λ l. lines_fault room (at + length (line_words l)) location (drop (length (line_words l)) (w ∷ ws)))
    where
      next : PolicyLine → Result (List PolicyLine) ℕ
      next l = lines_from form part room (at + length (line_words l)) (drop (length (line_words l)) (w ∷ ws))

      go : ((line_at form part (w ∷ ws) ≡ None) × (location ≡ at)) ⊎ ((l : PolicyLine) × (line_at form part (w ∷ ws) ≡ Some l) × (next l ≡ Err location))
          → ((l : PolicyLine) → next l ≡ Err location → NoLineAt form part room (at + length (line_words l)) (drop (length (line_words l)) (w ∷ ws)) location) → NoLineAt form part (suc room) at (w ∷ ws) location
      go (inl h) later = fault_here (suc room) at location (w ∷ ws) h.1 (omega arith) (inr (λ l s. cc (h.0, (line_found_exactly form part (w ∷ ws) l).1 s)))
      go (inr h) later = fault_later room at location (w ∷ ws) h.0 (line_out form part (w ∷ ws) h.0 h.1) (later h.0 h.2)

  -- the other way: where none fits, that is the answer
  module _ (rest : List ℕ) (more : 0 < length rest) where
    abbrev Unfit : Type 0
    Unfit = (l : PolicyLine) → ¬ Stands form part rest l

    none_here : Unfit → line_at form part rest ≡ None
    none_here n = go (line_at form part rest) refl
      where
        go : (o : Option PolicyLine) → line_at form part rest ≡ o → o ≡ None
        go None q = refl
        go (Some l) q = absurd (n l (line_out form part rest l q))

    no_room : (ws : List ℕ) (at : ℕ) → 0 < length ws → lines_from form part zero at ws ≡ Err at
    unfolding lines_from
    no_room ws at h = grind arith

    behind_lines : (before : List PolicyLine) (room at : ℕ) → list_all (in_part form part) before ≡ true → list_all valid before ≡ true → length before ≤ room → (length before ≡ room) ⊎ Unfit
        → lines_from form part room at (lines_words before ++ rest) ≡ Err (at + length (lines_words before))
    unfolding lines_words after_line add_line
    behind_lines [] zero at k v f n = rw add-zero (no_room rest at more)
    behind_lines [] (suc room) at k v f (inl q) = absurd (omega arith)
    behind_lines [] (suc room) at k v f (inr n) = rw (add-zero, lines_next form part room at rest more, none_here n)
    behind_lines (l ∷ ls) zero at k v f n = absurd (omega arith)
    behind_lines (l ∷ ls) (suc room) at k v f n = grind (arith, and_parts, length-append, append_assoc, line_step, behind_lines ls room)

  pub no_line_fault : (room at location : ℕ) (ws : List ℕ) → NoLineAt form part room at ws location → lines_from form part room at ws ≡ Err location
  no_line_fault room at location ws h = rw (h.words, h.located, h.lines.words) (behind_lines h.rest h.more h.before room at h.lines.kind h.lines.sound h.lines.few h.none_fits)

  -- both answers, exactly
  pub part_whole_exactly : (room at : ℕ) (ws : List ℕ) (ls : List PolicyLine) → (lines_from form part room at ws ≡ Ok ls) ↔ AreLines form part room ws ls
  part_whole_exactly room at ws ls = (lines_written form part room at ws ls, λ h. rw h.words (lines_found ls room at h.kind h.sound h.few))

  pub part_fault_exactly : (room at : ℕ) (ws : List ℕ) (location : ℕ) → (lines_from form part room at ws ≡ Err location) ↔ NoLineAt form part room at ws location
  part_fault_exactly room at ws location = (lines_fault room at location ws, no_line_fault room at location ws)

-- ---- rules and constraints as lines, both ways

-- rules stand in their part of an image exactly where texts for its form may have them
rules_in_part : (form : ℕ) (rs : List Rule) → list_all (in_part form Part.Rules) (map rule rs) ≡ list_all (allowed form) (map rule rs)
unfolding in_part
rules_in_part form [] = refl
rules_in_part form (r ∷ rs) = rw (rules_in_part form rs)

pub rules_kind : (form : ℕ) (rs : List Rule) → list_all (allowed form) (map rule rs) ≡ true → list_all (in_part form Part.Rules) (map rule rs) ≡ true
rules_kind form rs h = rules_in_part form rs ∙ h

pub rules_allowed : (form : ℕ) (rs : List Rule) → list_all (in_part form Part.Rules) (map rule rs) ≡ true → list_all (allowed form) (map rule rs) ≡ true
rules_allowed form rs h = sym (rules_in_part form rs) ∙ h

pub constraints_kind : (form : ℕ) (cs : List Constraint) → list_all (in_part form Part.Constraints) (map constraint cs) ≡ true
unfolding in_part
constraints_kind form [] = refl
constraints_kind form (c ∷ cs) = constraints_kind form cs

pub rules_back : (rs : List Rule) → rules_in (map rule rs) ≡ rs
unfolding rules_in
rules_back [] = refl
rules_back (r ∷ rs) = ap (λ (xs : List Rule). r ∷ xs) (rules_back rs)

pub constraints_back : (cs : List Constraint) → constraints_in (map constraint cs) ≡ cs
unfolding constraints_in
constraints_back [] = refl
constraints_back (c ∷ cs) = ap (λ (xs : List Constraint). c ∷ xs) (constraints_back cs)
