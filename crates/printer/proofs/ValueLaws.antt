-- The text of a line from its parts is the text of the line.
use Rattle.std.proofs.Common.{ℕ, ◌<◌, true, List, [], ◌∷◌, ◌++◌, map, append_assoc, append-nil, ◌≡◌, refl, sym, ap, ◌∙◌, arith, length}
use Rattle.std.proofs.Math.ListN.{length-map}
use Rattle.policy.proofs.ValidLaws.{valid_out}
use Rattle.policy.specs.Limits.{valid}
use Rattle.policy.specs.Line.{PolicyLine, heads_of, comparisons_of, ending_of}
use Rattle.policy.specs.declared.comparison.Comparison.{Comparison}
use Rattle.policy.specs.declared.effect.Effect.{Effect}
use Rattle.lexer.specs.Byte.{bytes}
use Rattle.lexer.specs.Token.{Token}
use Rattle.printer.proofs.LengthLaws.{some_tokens}
use Rattle.printer.specs.Printed.{effect_tokens, comparison_tokens, joined_by, head_tokens, condition_tokens, line_tokens, line_bytes}
use Rattle.printer.specs.Steps.Value.{test_token, comparison_text, linked, heads_text, condition_text, effect_text, ending_text, value_text}

-- tokens with a space before each
spaced : List Token → List ℕ
spaced [] = []
spaced (t ∷ ts) = 32 ∷ t ++ spaced ts

spaced_append : (ts us : List Token) → spaced (ts ++ us) ≡ spaced ts ++ spaced us
unfolding spaced
spaced_append [] us = refl
spaced_append (t ∷ ts) us = ap (λ (s : List ℕ). 32 ∷ t ++ s) (spaced_append ts us) ∙ sym (append_assoc (32 ∷ t) (spaced ts) (spaced us))

spaced_joined : (ts : List Token) → 0 < length ts → 32 ∷ joined_by 32 ts ≡ spaced ts
unfolding joined_by spaced
spaced_joined [] h = absurd (omega arith)
spaced_joined (t ∷ []) h = ap (λ (s : List ℕ). 32 ∷ s) (sym (append-nil t))
spaced_joined (t ∷ u ∷ us) h = ap (λ (s : List ℕ). 32 ∷ t ++ s) (spaced_joined (u ∷ us) (omega arith))

-- elements of one or more tokens each, joined by a token
module _ {A : Type 0} (tokens : A → List Token) (text : A → List ℕ) (sep : Token) (same : (x : A) → 32 ∷ text x ≡ spaced (tokens x)) where
  further : (x : A) (xs : List A) → spaced (joined_by sep (tokens x ∷ map tokens xs)) ≡ 32 ∷ text x ++ linked text (32 ∷ sep ++ 32 ∷ []) (32 ∷ sep ++ 32 ∷ []) xs
  unfolding joined_by spaced linked
  further x [] = sym (same x) ∙ ap (λ (s : List ℕ). 32 ∷ s) (sym (append-nil (text x)))
  further x (y ∷ ys) = grind (arith, spaced, spaced_append, append_assoc, further y ys)

token_spaced : (t : Token) → 32 ∷ t ≡ spaced (t ∷ [])
unfolding spaced
token_spaced t = ap (λ (s : List ℕ). 32 ∷ s) (sym (append-nil t))

heads_spaced : {A : Type 0} (token : A → Token) (xs : List A) → 0 < length xs → spaced (head_tokens token xs) ≡ 32 ∷ linked token [] (bytes " & ") xs
unfolding head_tokens linked bytes
heads_spaced token [] h = absurd (omega arith)
heads_spaced token (x ∷ xs) h = further (λ y. token y ∷ []) token (bytes "&") (λ y. token_spaced (token y)) x xs

comparison_spaced : (c : Comparison) → 32 ∷ comparison_text c ≡ spaced (comparison_tokens c)
unfolding comparison_tokens comparison_text spaced
comparison_spaced c = sym (simp (append_assoc, append-nil))

condition_spaced : (cs : List Comparison) → spaced (condition_tokens cs) ≡ condition_text cs
unfolding condition_tokens linked bytes spaced
condition_spaced [] = refl
condition_spaced (c ∷ cs) = ap (λ (s : List ℕ). 32 ∷ 105 ∷ 102 ∷ s) (further comparison_tokens comparison_text (bytes ",") comparison_spaced c cs)

effect_spaced : (x : Effect) → spaced (effect_tokens x) ≡ effect_text x
unfolding effect_tokens effect_text bytes spaced
effect_spaced x = grind (arith, append-nil)

linked_map : {A B : Type 0} (text : B → List ℕ) (f : A → B) (first next : List ℕ) (xs : List A) → linked text first next (map f xs) ≡ linked (λ x. text (f x)) first next xs
unfolding linked
linked_map text f first next [] = refl
linked_map text f first next (x ∷ xs) = ap (λ (s : List ℕ). first ++ text (f x) ++ s) (linked_map text f next next xs)

-- a line of one or more heads; 32 stands before both sides
line_spaced : (l : PolicyLine) → 0 < length (heads_of l)
    → (32 ∷ line_bytes l) ++ 10 ∷ [] ≡ 32 ∷ ending_text (ending_of l) (heads_text (heads_of l)) (condition_text (comparisons_of l))
unfolding line_bytes line_tokens heads_of comparisons_of ending_of ending_text spaced bytes test_token
line_spaced l h = grind (arith, heads_spaced, length-map, linked_map, append_assoc, spaced_append, spaced_joined, some_tokens, effect_spaced, condition_spaced)

pub value_text_is : (l : PolicyLine) → valid l ≡ true → value_text l ≡ line_bytes l ++ 10 ∷ []
unfolding value_text
value_text_is l v = let both : 32 ∷ (line_bytes l ++ 10 ∷ []) ≡ 32 ∷ value_text l = line_spaced l (valid_out l v).some in cc
