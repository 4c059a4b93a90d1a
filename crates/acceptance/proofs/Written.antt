-- What is read of a line's tokens is in the grammar, and nothing in the grammar is refused.
use Rattle.std.proofs.Common.{Bool, true, false, cond, List, [], ◌∷◌, ◌++◌, ◌≡◌, ◌⊎◌, inl, inr, refl, ap, ◌∙◌, arith, Option, Some, None, option_map}
use Rattle.std.proofs.lemmas.Bool.{false_from_ne_true}
use Prim.Native.String.{String}
use Rattle.policy.specs.Line.{PolicyLine, rule, constraint}
use Rattle.policy.specs.Policy.{Rule, Constraint}
use Rattle.policy.specs.declared.comparison.Comparison.{Comparison}
use Rattle.policy.specs.declared.comparison.Literal.{Literal}
use Rattle.policy.specs.declared.effect.Effect.{Effect}
use Rattle.lexer.proofs.KeywordLaws.{same_bytes}
use Rattle.lexer.specs.Byte.{bytes, bytes_equal, is}
use Rattle.lexer.specs.Token.{Token, named, both, literal_of, action_of, comparison_of}
use Rattle.syntax.specs.Grammar.{Joined, last, before, joined, comparisons_from, condition_from, effect_from, yields, never, rule_after, constraint_after, after, line_from}
use Rattle.acceptance.specs.Written.{AreJoined, AreComparisons, AreCondition, IsEffect, IsRule, IsConstraint, IsLine}

-- both are there, where one is made of both
pub both_out : {A B C : Type 0} (f : A → B → C) (o : Option A) (p : Option B) (z : C) → both f o p ≡ Some z → (x : A) × (y : B) × (o ≡ Some x) × (p ≡ Some y) × (f x y ≡ z)
unfolding both
both_out f o p z h = grind arith

pub mapped_out : {A B : Type 0} (f : A → B) (o : Option A) (z : B) → option_map f o ≡ Some z → (x : A) × (o ≡ Some x) × (f x ≡ z)
mapped_out f o z h = grind arith

pub choice_out : {A : Type 0} (b : Bool) (o p : Option A) (z : A) → cond b o p ≡ Some z → ((b ≡ true) × (o ≡ Some z)) ⊎ ((b ≡ false) × (p ≡ Some z))
choice_out b o p z h = grind arith

-- ---- keywords

-- what one keyword is, is no other
module _ (t : Token) where
  is_other : (k l : String) → is k t ≡ true → is l t ≡ is l (bytes k)
  unfolding is
  is_other k l h = ap (is l) (same_bytes t (bytes k) h)

  if_apart : is "if" t ≡ true → is "&" t ≡ false
  unfolding is bytes bytes_equal
  if_apart h = is_other "if" "&" h

  literal_apart : (x : Literal) → literal_of t ≡ Some x → is "never" t ≡ false
  unfolding is bytes literal_of named
  literal_apart x h = false_from_ne_true (is "never" t) (λ e. let n : literal_of t ≡ None = ap literal_of (same_bytes t (bytes "never") e) in cc)

-- ---- items joined by `&`

-- no `&` stands in front
EndsItems : List Token → Type 0
EndsItems [] = true ≡ true
EndsItems (t ∷ ts) = is "&" t ≡ false

module _ {A : Type 0} (item : Token → Option A) where
  record Read (ts : List Token) (j : Joined A) : Type 0 where
    front : List Token
    tokens : ts ≡ front ++ j.rest
    items : AreJoined item front j.items

  read_last : (t : Token) (rest : List Token) (j : Joined A) → option_map (last rest) (item t) ≡ Some j → Read (t ∷ rest) j
  unfolding AreJoined
  read_last t rest j h = let k = mapped_out (last rest) (item t) j h in rw (← k.2) (record { front = t ∷ []; tokens = refl; items = k.1 })

  items_in : (ts : List Token) (j : Joined A) → joined item ts ≡ Some j → Read ts j
  unfolding joined AreJoined
  items_in [] j h = cc
  items_in (t ∷ []) j h = read_last t [] j h
  items_in (t ∷ s ∷ ts) j h =
      elim (choice_out (is "&" s) (both before (item t) (joined item ts)) (option_map (last (s ∷ ts)) (item t)) j h) [
        | inl k ↦
            let b = both_out before (item t) (joined item ts) j k.1 in
            let r = items_in ts b.1 b.3 in
            rw (← b.4) (record { front = t ∷ s ∷ r.front; tokens = ap (λ (us : List Token). t ∷ s ∷ us) r.tokens; items = (b.2, k.0, r.items) })
        | inr k ↦ read_last t (s ∷ ts) j k.1
      ]

  last_read : (t : Token) (rest : List Token) (x : A) → item t ≡ Some x → EndsItems rest → joined item (t ∷ rest) ≡ Some (last rest x)
  unfolding joined EndsItems
  last_read t rest x h e = grind arith

  items_read : (front rest : List Token) (xs : List A) → AreJoined item front xs → EndsItems rest → joined item (front ++ rest) ≡ Some (record { items = xs; rest = rest })
  unfolding joined AreJoined both
  items_read (t ∷ []) rest (x ∷ []) h e = last_read t rest x h e
  items_read (t ∷ s ∷ ts) rest (x ∷ xs) h e = rw (h.1, h.0, items_read ts rest xs h.2 e)
  items_read _ rest _ h e = absurd h

-- ---- the condition

comparisons_in : (ts : List Token) (cs : List Comparison) → comparisons_from ts ≡ Some cs → AreComparisons ts cs
unfolding comparisons_from AreComparisons
comparisons_in (r ∷ relation ∷ o ∷ []) cs h = grind arith
comparisons_in (r ∷ relation ∷ o ∷ s ∷ ts) cs h =
    elim (choice_out (is "," s) (both ◌∷◌ (comparison_of r relation o) (comparisons_from ts)) None cs h) [
      | inl k ↦ let b = both_out ◌∷◌ (comparison_of r relation o) (comparisons_from ts) cs k.1 in rw (← b.4) (b.2, k.0, comparisons_in ts b.1 b.3)
      | inr k ↦ cc
    ]
comparisons_in _ cs h = cc

comparisons_read : (ts : List Token) (cs : List Comparison) → AreComparisons ts cs → comparisons_from ts ≡ Some cs
unfolding comparisons_from AreComparisons both
comparisons_read (r ∷ relation ∷ o ∷ []) (c ∷ []) h = rw h
comparisons_read (r ∷ relation ∷ o ∷ s ∷ ts) (c ∷ cs) h = rw (h.1, h.0, comparisons_read ts cs h.2)
comparisons_read _ _ h = absurd h

condition_in : (ts : List Token) (cs : List Comparison) → condition_from ts ≡ Some cs → AreCondition ts cs
unfolding condition_from AreCondition
condition_in ts cs h = grind (arith, comparisons_in)

condition_read : (ts : List Token) (cs : List Comparison) → AreCondition ts cs → condition_from ts ≡ Some cs
unfolding condition_from AreCondition
condition_read ts cs h = grind (arith, comparisons_read)

condition_ends : (ts : List Token) (cs : List Comparison) → AreCondition ts cs → EndsItems ts
unfolding EndsItems AreCondition
condition_ends ts cs h = grind (arith, if_apart)

-- ---- an effect

module _ (keyword name : Token) (x : Effect) where
  effect_in : effect_from keyword name ≡ Some x → IsEffect keyword name x
  unfolding effect_from IsEffect
  effect_in e = grind arith

  effect_read : IsEffect keyword name x → effect_from keyword name ≡ Some x
  unfolding effect_from IsEffect is bytes bytes_equal
  effect_read h = grind (arith, is_other keyword "triggers" "causes")

  effect_apart : IsEffect keyword name x → is "&" keyword ≡ false
  unfolding IsEffect is bytes bytes_equal
  effect_apart h = grind (arith, is_other keyword "triggers" "&", is_other keyword "causes" "&")

-- ---- the two shapes

after_out : {A : Type 0} (f : List A → List Token → Option PolicyLine) (o : Option (Joined A)) (l : PolicyLine) → after f o ≡ Some l
    → (j : Joined A) × (o ≡ Some j) × (f j.items j.rest ≡ Some l)
unfolding after
after_out f o l h = grind arith

rule_in : (ts : List Token) (l : PolicyLine) → after rule_after (joined literal_of ts) ≡ Some l → IsLine ts l
unfolding rule_after
rule_in ts l h = let k = after_out rule_after (joined literal_of ts) l h in let r = items_in literal_of ts k.0 k.1 in behind k.0.items k.0.rest r.front r.tokens r.items k.2
  where
    behind : (xs : List Literal) (rest front : List Token) → ts ≡ front ++ rest → AreJoined literal_of front xs → rule_after xs rest ≡ Some l → IsLine ts l
    behind xs (c ∷ a ∷ us) front e i h =
        let b = both_out (yields xs) (effect_from c a) (condition_from us) l h in
        rw (← b.4)
        (record {
          literals = front;
          keyword = c;
          name = a;
          condition = us;
          tokens = e;
          are_literals = i;
          is_effect = effect_in c a b.0 b.2;
          are_condition = condition_in us b.1 b.3;
        })
    behind xs _ front e i h = cc

constraint_in : (t : Token) (ts : List Token) (l : PolicyLine) → is "never" t ≡ true → after constraint_after (joined action_of ts) ≡ Some l → IsLine (t ∷ ts) l
unfolding constraint_after
constraint_in t ts l w h =
    let k = after_out constraint_after (joined action_of ts) l h in
    let r = items_in action_of ts k.0 k.1 in
    let c = mapped_out (never k.0.items) (condition_from k.0.rest) l k.2 in
    rw (← c.2)
    (record {
      keyword = t;
      actions = r.front;
      condition = k.0.rest;
      tokens = ap (λ (us : List Token). t ∷ us) r.tokens;
      never = w;
      are_actions = r.items;
      are_condition = condition_in k.0.rest c.0 c.1;
    })

-- what is read is in the grammar
pub line_in : (ts : List Token) (l : PolicyLine) → line_from ts ≡ Some l → IsLine ts l
unfolding line_from
line_in ts l h = grind (arith, choice_out, constraint_in, rule_in)

-- a rule's line begins with no `never`
line_of_rule : (front : List Token) (xs : List Literal) → AreJoined literal_of front xs → (rest : List Token) → line_from (front ++ rest) ≡ after rule_after (joined literal_of (front ++ rest))
unfolding line_from AreJoined
line_of_rule (t ∷ []) (x ∷ []) h rest = rw (literal_apart t x h)
line_of_rule (t ∷ s ∷ ts) (x ∷ xs) h rest = rw (literal_apart t x h.0)
line_of_rule _ _ h rest = absurd h

rule_read : (ts : List Token) (x : Rule) → IsRule ts x → line_from ts ≡ Some (rule x)
unfolding after rule_after both EndsItems
rule_read ts x r =
    let rest : List Token = r.keyword ∷ r.name ∷ r.condition in
    ap line_from r.tokens ∙ line_of_rule r.literals x.literals r.are_literals rest
    ∙ ap (after rule_after) (items_read literal_of r.literals rest x.literals r.are_literals (effect_apart r.keyword r.name x.effect r.is_effect))
    ∙ rw (effect_read r.keyword r.name x.effect r.is_effect, condition_read r.condition x.comparisons r.are_condition)

constraint_read : (ts : List Token) (x : Constraint) → IsConstraint ts x → line_from ts ≡ Some (constraint x)
unfolding line_from after constraint_after
constraint_read ts x r =
    ap line_from r.tokens ∙ rw r.never
    (ap (after constraint_after) (items_read action_of r.actions r.condition x.actions r.are_actions (condition_ends r.condition x.comparisons r.are_condition))
    ∙ ap (option_map (never x.actions)) (condition_read r.condition x.comparisons r.are_condition))

-- nothing in the grammar is refused
pub line_read : (ts : List Token) (l : PolicyLine) → IsLine ts l → line_from ts ≡ Some l
line_read ts l r = grind (arith, rule_read, constraint_read)
