-- Tokens that begin with `0x`: in a line of a text they stand only on the right-hand side of a comparison, in an epoch line only as a value. So a line that
-- has one with no digits, or with another byte behind it, has a wrong shape, and one with more than eight digits a constant out of range.
use Rattle.policy.specs.Fault.{refusal}
use Rattle.std.proofs.Common.{ℕ, ◌≤◌, ◌<◌, true, false, List, [], ◌∷◌, ◌++◌, Contains, ◌⊎◌, inl, inr, ◌≡◌, refl, sym, ap, ◌∙◌, arith, subst, length, Err, Option, Some, None, eqb}
use Rattle.std.proofs.lemmas.List.Elements.{Contains-append_cases}
use Rattle.std.proofs.lemmas.List.Folds.{list_all_at}
use Rattle.policy.proofs.ListLaws.{contains_cases, contains_one, contains_first, contains_later}
use Rattle.policy.specs.Limits.{allowed, in_range, comparison_in_range}
use Rattle.policy.specs.Line.{PolicyLine, comparisons_of}
use Rattle.std.specs.List.{list_all, list_any}
use Rattle.policy.specs.Policy.{Rule, Constraint}
use Rattle.policy.specs.declared.comparison.Comparison.{Comparison}
use Rattle.policy.specs.declared.effect.Effect.{Effect}
use Rattle.policy.specs.declared.fault.Fault.{Fault}
use Rattle.lexer.specs.Byte.{bytes, bytes_equal, is, is_digit, is_hex_digit}
use Rattle.lexer.specs.Lines.{tokens_of}
use Rattle.lexer.specs.Number.{number_of, pattern_digits, constant_of}
use Rattle.lexer.specs.Token.{Token, named, both, literal_of, action_of, event_of, reading_of, relation_of, operand_of, comparison_by, comparison_of}
use Rattle.syntax.specs.Judge.{line_answer}
use Rattle.epoch_line.specs.Epoch.{Item, Halves, at_equals, assignment_of, item_of, items_of, item_in_range, epoch_limit, read_epoch}
use Rattle.acceptance.proofs.FirstFault.{epoch_refused_exactly}
use Rattle.acceptance.proofs.OneLine.{refused_answer}
use Rattle.acceptance.proofs.Written.{both_out}
use Rattle.acceptance.proofs.Patterns.{bare_prefix, other_byte, wide_comparison, wide_value}
use Rattle.acceptance.specs.FirstFault.{EpochFault}
use Rattle.acceptance.specs.OneLine.{is_skipped, LineRefused}
use Rattle.acceptance.specs.Patterns.{prefixed}
use Rattle.acceptance.specs.Written.{AreJoined, AreComparisons, AreCondition, IsEffect, IsRule, IsConstraint, IsLine, IsWritten}

broken : (ds : List ℕ) → (ds ≡ []) ⊎ (list_all is_hex_digit ds ≡ false) → constant_of (prefixed ds) ≡ None
broken ds h = grind (arith, bare_prefix, other_byte)

-- ---- lines of a text

-- what is no item and no `&` is nowhere among items
module _ {A : Type 0} (item : Token → Option A) (t : Token) (no_item : item t ≡ None) (no_and : is "&" t ≡ false) where
  not_joined : (ts : List Token) (xs : List A) → AreJoined item ts xs → Contains ts t → ⊥
  unfolding AreJoined
  not_joined (s ∷ []) (x ∷ []) h m = let e = contains_one s t m in cc
  not_joined (s ∷ u ∷ ts) (x ∷ xs) h m = grind (arith, not_joined ts xs h.2)
  not_joined _ _ h m = h

module _ (form : ℕ) (ds : List ℕ) where
  abbrev token : Token
  token = prefixed ds

  -- a comparison among these has the token on its right-hand side
  record Stands (cs : List Comparison) : Type 0 where
    comparison : Comparison
    among : Contains cs comparison
    reading : Token
    relation : Token
    here : comparison_of reading relation token ≡ Some comparison

  -- of three tokens that are a comparison the token is the third
  third : (r q o : Token) (c : Comparison) (ts : List Token) → comparison_of r q o ≡ Some c → Contains (r ∷ q ∷ o ∷ ts) token → (o ≡ token) ⊎ Contains ts token
  unfolding comparison_of reading_of relation_of named is bytes bytes_equal
  third r q o c ts h m =
      elim (contains_cases r (q ∷ o ∷ ts) token m) [
        | inl e ↦ let k = ap (λ (x : Token). comparison_of x q o) e in cc
        | inr m ↦
            elim (contains_cases q (o ∷ ts) token m) [
              | inl e ↦ let k : comparison_by (reading_of r) None (operand_of o) ≡ Some c = sym (ap (λ (x : Token). comparison_of r x o) e) ∙ h in absurd (grind (arith, k))
              | inr m ↦ contains_cases o ts token m
            ]
      ]

  found : (r q o : Token) (c : Comparison) (cs : List Comparison) → comparison_of r q o ≡ Some c → o ≡ token → Stands (c ∷ cs)
  found r q o c cs h e = record { comparison = c; among = contains_first c cs; reading = r; relation = q; here = sym (ap (comparison_of r q) e) ∙ h }

  in_comparisons : (ts : List Token) (cs : List Comparison) → AreComparisons ts cs → Contains ts token → Stands cs
  unfolding AreComparisons is bytes bytes_equal
  in_comparisons (r ∷ q ∷ o ∷ []) (c ∷ []) h m = elim (third r q o c [] h m) [ inl e ↦ found r q o c [] h e | inr k ↦ absurd (omega (arith, k.1)) ]
  in_comparisons (r ∷ q ∷ o ∷ s ∷ ts) (c ∷ cs) h m =
      elim (third r q o c (s ∷ ts) h.0 m) [
        | inl e ↦ found r q o c cs h.0 e
        | inr k ↦
            elim (contains_cases s ts token k) [
              | inl e ↦ let comma = ap (is ",") e in cc
              | inr j ↦ let f = in_comparisons ts cs h.2 j in record { comparison = f.comparison; among = contains_later c cs f.comparison f.among; reading = f.reading; relation = f.relation; here = f.here }
            ]
      ]
  in_comparisons _ cs h m = absurd h

  in_condition : (ts : List Token) (cs : List Comparison) → AreCondition ts cs → Contains ts token → Stands cs
  unfolding AreCondition is bytes bytes_equal
  in_condition ts cs h m = grind (arith, contains_cases, in_comparisons)

  in_rule : (ts : List Token) (x : Rule) → IsRule ts x → Contains ts token → Stands x.comparisons
  unfolding is bytes bytes_equal literal_of action_of event_of named IsEffect
  in_rule ts x r m =
      elim (Contains-append_cases r.literals (r.keyword ∷ r.name ∷ r.condition) token (rw r.tokens at m)) [
        | inl h ↦ absurd (not_joined literal_of token refl refl r.literals x.literals r.are_literals h)
        | inr h ↦
            elim (contains_cases r.keyword (r.name ∷ r.condition) token h) [
              | inl e ↦ absurd (no_keyword x.effect r.is_effect e)
              | inr h ↦
                  elim (contains_cases r.name r.condition token h) [
                    | inl e ↦ absurd (no_name x.effect r.is_effect e)
                    | inr h ↦ in_condition r.condition x.comparisons r.are_condition h
                  ]
            ]
      ]
    where
      no_keyword : (t : Effect) → IsEffect r.keyword r.name t → r.keyword ≡ token → ⊥
      no_keyword t h e = grind arith

      no_name : (t : Effect) → IsEffect r.keyword r.name t → r.name ≡ token → ⊥
      no_name t h e = grind arith

  in_constraint : (ts : List Token) (x : Constraint) → IsConstraint ts x → Contains ts token → Stands x.comparisons
  unfolding is bytes bytes_equal action_of named
  in_constraint ts x r m =
      elim (contains_cases r.keyword (r.actions ++ r.condition) token (rw r.tokens at m)) [
        | inl e ↦ let k = ap (is "never") e in cc
        | inr h ↦
            elim (Contains-append_cases r.actions r.condition token h) [
              | inl k ↦ absurd (not_joined action_of token refl refl r.actions x.actions r.are_actions k)
              | inr k ↦ in_condition r.condition x.comparisons r.are_condition k
            ]
      ]

  in_line : (ts : List Token) (l : PolicyLine) → IsLine ts l → Contains ts token → Stands (comparisons_of l)
  unfolding comparisons_of
  in_line ts l r m = grind (arith, in_rule, in_constraint)

  module _ (line : List ℕ) (m : Contains (tokens_of line) token) where
    stands : (l : PolicyLine) → IsWritten line l → Stands (comparisons_of l)
    stands l w = in_line (w.first ∷ w.others) l w.written (subst (λ (ts : List Token). Contains ts token) w.tokens m)

    pub bare_prefix_refused : (ds ≡ []) ⊎ (list_all is_hex_digit ds ≡ false) → is_skipped (tokens_of line) ≡ false → line_answer form line ≡ Err Fault.Syntax
    unfolding operand_of reading_of named bytes comparison_of
    bare_prefix_refused b h = refused_answer form line Fault.Syntax (LineRefused.wrong_shape h (λ l w. nowhere (stands l w)))
      where
        no_operand : operand_of token ≡ None
        no_operand = rw (broken ds b)

        nowhere : {cs : List Comparison} → Stands cs → ⊥
        nowhere s = let h : comparison_by (reading_of s.reading) (relation_of s.relation) None ≡ Some s.comparison = rw no_operand at s.here in grind (arith, h)

    pub wide_token_refused : list_all is_hex_digit ds ≡ true → pattern_digits < length ds → (l : PolicyLine) → IsWritten line l → allowed form l ≡ true → line_answer form line ≡ Err Fault.OutOfRange
    unfolding in_range
    wide_token_refused h k l w a =
        let s = stands l w in
        let out = list_all_at comparison_in_range _ s.among.0 _ s.among.1 (ap comparison_in_range s.among.2 ∙ wide_comparison ds h k s.reading s.relation s.comparison s.here) in
        refused_answer form line Fault.OutOfRange (LineRefused.out_of_range l w a (grind (arith, out)))

-- ---- epoch lines

digits_none : (s : List ℕ) (h : Halves) → at_equals s ≡ Some h → list_all is_digit s ≡ false
unfolding at_equals
digits_none [] h e = cc
digits_none (b ∷ s) h e = grind (arith, digits_none s)

-- a token with a `=` names no event
unnamed : (t : Token) (h : Halves) → at_equals t ≡ Some h → named 69 t ≡ None
unfolding named at_equals number_of
unnamed t h e = grind (arith, digits_none)

module _ (t : Token) (left ds : List ℕ) (halves : at_equals t ≡ Some (record { left = left; right = prefixed ds })) where
  item_is : item_of t ≡ assignment_of (Some (record { left = left; right = prefixed ds }))
  unfolding item_of
  item_is = rw (unnamed t (record { left = left; right = prefixed ds }) halves, halves) refl

  item_there : (ts : List Token) (is : List Item) → items_of ts ≡ Some is → Contains ts t → (i : Item) × Contains is i × (item_of t ≡ Some i)
  unfolding items_of
  item_there [] is e m = absurd (omega (arith, m.1))
  item_there (s ∷ ts) is e m =
      let b = both_out ◌∷◌ (item_of s) (items_of ts) is e in
      rw (← b.4)
      (elim (contains_cases s ts t m) [
        | inl h ↦ (b.0, contains_first b.0 b.1, sym (ap item_of h) ∙ b.2)
        | inr k ↦ let r = item_there ts b.1 b.3 k in (r.0, contains_later b.0 b.1 r.0 r.1, r.2)
      ])

  module _ (line : List ℕ) (short : length line ≤ epoch_limit) (m : Contains (tokens_of line) t) where
    pub epoch_bare_prefix_refused : (ds ≡ []) ⊎ (list_all is_hex_digit ds ≡ false) → read_epoch line ≡ Err (refusal Fault.EpochSyntax 0)
    unfolding assignment_of both
    epoch_bare_prefix_refused b = (epoch_refused_exactly line (refusal Fault.EpochSyntax 0)).1 (EpochFault.wrong_shape short (inr (nowhere (items_of (tokens_of line)) (λ is e. item_there (tokens_of line) is e m))))
      where
        no_item : item_of t ≡ None
        no_item = item_is ∙ grind (arith, broken ds b)

        nowhere : (o : Option (List Item)) → ((is : List Item) → o ≡ Some is → (i : Item) × Contains is i × (item_of t ≡ Some i)) → o ≡ None
        nowhere None f = refl
        nowhere (Some js) f = let r = f js refl in let n = no_item in cc

    pub epoch_wide_constant_refused : list_all is_hex_digit ds ≡ true → pattern_digits < length ds → list_any (eqb 10) line ≡ false → (is : List Item) → items_of (tokens_of line) ≡ Some is
        → read_epoch line ≡ Err (refusal Fault.EpochRange 0)
    epoch_wide_constant_refused h k no_end is e =
        let r = item_there (tokens_of line) is e m in
        let out = list_all_at item_in_range is r.1.0 r.0 r.1.1 (ap item_in_range r.1.2 ∙ wide_value ds h k left r.0 (sym item_is ∙ r.2)) in
        (epoch_refused_exactly line (refusal Fault.EpochRange 0)).1 (EpochFault.out_of_range short no_end is e out)
