-- Laws of joining and splitting: tokens joined by spaces are the tokens of the line, and ended lines are the lines of the text.
use Rattle.std.proofs.Common.{ℕ, Bool, true, not, ◌&&◌, List, [], ◌∷◌, ◌++◌, map, ◌≡◌, refl, sym, ap, ◌∙◌, arith, eq-eqb, eqb, ltb}
use Rattle.std.proofs.lemmas.List.Folds.{list_all-append}
use Rattle.std.proofs.lemmas.Bool.{and_from, and_parts}
use Rattle.std.proofs.lemmas.Bool.Decides.{nat_tests}
use Rattle.policy.specs.Line.{PolicyLine}
use Rattle.std.specs.List.{list_all}
use Rattle.policy.specs.declared.comparison.Comparison.{Comparison}
use Rattle.policy.specs.declared.comparison.Literal.{Literal}
use Rattle.policy.specs.declared.comparison.Relation.{Relation}
use Rattle.policy.specs.declared.effect.Effect.{Effect}
use Rattle.policy.specs.declared.number.Action.{Action}
use Rattle.lexer.specs.Byte.{bytes, is_digit}
use Rattle.lexer.specs.Token.{Token}
use Rattle.lexer.specs.Lines.{prepend, pieces, lines_of, non_empty, tokens_of}
use Rattle.lexer.specs.Number.{is_empty}
use Rattle.lexer.specs.Steps.Scan.{in_token}
use Rattle.printer.proofs.DecimalLaws.{decimal_all, decimal_some}
use Rattle.output.specs.Number.{decimal}
use Rattle.printer.specs.Printed.{constant_token, event_token, literal_token, action_token, effect_tokens, reading_token, relation_token, operand_token, comparison_tokens, joined_by, head_tokens, condition_tokens, line_tokens, line_bytes, lines_text}

-- ---- tests of all elements

module _ {A : Type 0} where
  pub all_weaker : (p q : A → Bool) → ((x : A) → p x ≡ true → q x ≡ true) → (xs : List A) → list_all p xs ≡ true → list_all q xs ≡ true
  all_weaker p q f [] h = refl
  all_weaker p q f (x ∷ xs) h = grind (arith, all_weaker p q f xs)

  pub all_mapped : {B : Type 0} (p : B → Bool) (f : A → B) → ((x : A) → p (f x) ≡ true) → (xs : List A) → list_all p (map f xs) ≡ true
  all_mapped p f h [] = refl
  all_mapped p f h (x ∷ xs) = and_from _ _ (h x) (all_mapped p f h xs)

  pub all_joined : (p : A → Bool) (sep : A) (xs : List (List A)) → p sep ≡ true → list_all (list_all p) xs ≡ true → list_all p (joined_by sep xs) ≡ true
  unfolding joined_by
  all_joined p sep [] s h = refl
  all_joined p sep (x ∷ []) s h = (and_parts (list_all p x) true h).0
  all_joined p sep (x ∷ y ∷ ys) s h = grind (arith, list_all-append, all_joined p sep (y ∷ ys))

-- ---- pieces

abbrev other : ℕ → ℕ → Bool
other end b = not (eqb b end)

pieces_past : (end : ℕ) (t s : List ℕ) → list_all (other end) t ≡ true → pieces end (t ++ end ∷ s) ≡ t ∷ pieces end s
unfolding pieces prepend
pieces_past end [] s h = rw (eq-eqb end end refl)
pieces_past end (b ∷ t) s h = grind (arith, pieces_past end t s)

pieces_last : (end b : ℕ) (t : List ℕ) → list_all (other end) (b ∷ t) ≡ true → pieces end (b ∷ t) ≡ (b ∷ t) ∷ []
unfolding pieces prepend
pieces_last end b [] h = grind arith
pieces_last end b (c ∷ t) h = grind (arith, pieces_last end c t)

-- ---- clean tokens: with a byte, and none that ends a token or is not ASCII

abbrev pub ascii : ℕ → Bool
ascii b = ltb b 128

abbrev inside : ℕ → Bool
inside b = in_token b && ascii b

pub clean : Token → Bool
clean t = not (is_empty t) && list_all inside t

clean_all : (p : ℕ → Bool) → ((b : ℕ) → inside b ≡ true → p b ≡ true) → (t : Token) → clean t ≡ true → list_all p t ≡ true
unfolding clean
clean_all p f t h = all_weaker inside p f t (and_parts (not (is_empty t)) (list_all inside t) h).1

no_space : (b : ℕ) → inside b ≡ true → other 32 b ≡ true
no_space b h = grind arith

tokens_joined : (ts : List Token) → list_all clean ts ≡ true → tokens_of (joined_by 32 ts) ≡ ts
unfolding tokens_of joined_by clean non_empty pieces
tokens_joined [] h = refl
tokens_joined ((b ∷ t) ∷ []) h = ap non_empty (pieces_last 32 b t (clean_all (other 32) no_space (b ∷ t) (grind arith)))
tokens_joined ((b ∷ t) ∷ u ∷ us) h =
    let r = and_parts (clean (b ∷ t)) (list_all clean (u ∷ us)) h in
    ap non_empty (pieces_past 32 (b ∷ t) (joined_by 32 (u ∷ us)) (clean_all (other 32) no_space (b ∷ t) r.0))
    ∙ ap (λ (ps : List Token). (b ∷ t) ∷ ps) (tokens_joined (u ∷ us) r.1)
tokens_joined ([] ∷ _) h = cc

-- ---- the tokens of a line are clean

digit_inside : (d : ℕ) → is_digit d ≡ true → inside d ≡ true
digit_inside d h = grind (arith, nat_tests)

decimal_inside : (n : ℕ) → list_all inside (decimal n) ≡ true
decimal_inside n = all_weaker is_digit inside digit_inside (decimal n) (decimal_all n)

decimal_clean : (n : ℕ) → clean (decimal n) ≡ true
unfolding clean
decimal_clean n = rw (decimal_some n, decimal_inside n)

sign_clean : (b : ℕ) (t : Token) → inside b ≡ true → clean t ≡ true → clean (b ∷ t) ≡ true
unfolding clean
sign_clean b t h k = grind arith

ruleset clean_tokens = (decimal_clean, sign_clean)

literal_clean : (l : Literal) → clean (literal_token l) ≡ true
unfolding literal_token event_token bytes
literal_clean l = grind (arith, clean_tokens)

action_clean : (a : Action) → clean (action_token a) ≡ true
unfolding action_token
action_clean a = grind (arith, clean_tokens)

relation_clean : (r : Relation) → clean (relation_token r) ≡ true
unfolding relation_token bytes clean
relation_clean r = grind arith

comparison_clean : (c : Comparison) → list_all clean (comparison_tokens c) ≡ true
unfolding comparison_tokens reading_token operand_token constant_token
comparison_clean c = grind (arith, clean_tokens, relation_clean)

condition_clean : (cs : List Comparison) → list_all clean (condition_tokens cs) ≡ true
unfolding condition_tokens clean bytes
condition_clean [] = refl
condition_clean (c ∷ cs) = all_joined clean (bytes ",") (map comparison_tokens (c ∷ cs)) refl (all_mapped (list_all clean) comparison_tokens comparison_clean (c ∷ cs))

heads_clean : {A : Type 0} (token : A → Token) → ((x : A) → clean (token x) ≡ true) → (xs : List A) → list_all clean (head_tokens token xs) ≡ true
unfolding head_tokens clean bytes
heads_clean token h xs = all_joined clean (bytes "&") (map (λ x. token x ∷ []) xs) refl (all_mapped (list_all clean) (λ x. token x ∷ []) (λ x. and_from _ _ (h x) refl) xs)

effect_clean : (x : Effect) → list_all clean (effect_tokens x) ≡ true
unfolding effect_tokens event_token action_token clean bytes
effect_clean x = grind (arith, decimal_inside)

line_clean : (l : PolicyLine) → list_all clean (line_tokens l) ≡ true
unfolding line_tokens clean bytes
line_clean l = grind (arith, list_all-append, heads_clean literal_token literal_clean, heads_clean action_token action_clean, effect_clean, condition_clean)

-- ---- so they are the tokens of its bytes, and its bytes are a line

pub line_tokens_is : (l : PolicyLine) → tokens_of (line_bytes l) ≡ line_tokens l
unfolding line_bytes
line_tokens_is l = tokens_joined (line_tokens l) (line_clean l)

-- so they stand with one space between each two, and none before the first or behind the last
pub one_space : (l : PolicyLine) → line_bytes l ≡ joined_by 32 (tokens_of (line_bytes l))
unfolding line_bytes
one_space l = ap (joined_by 32) (sym (line_tokens_is l))

line_all : (p : ℕ → Bool) → ((b : ℕ) → inside b ≡ true → p b ≡ true) → p 32 ≡ true → (l : PolicyLine) → list_all p (line_bytes l) ≡ true
unfolding line_bytes
line_all p f s l = all_joined p 32 (line_tokens l) s (all_weaker clean (list_all p) (clean_all p f) (line_tokens l) (line_clean l))

line_ends : (l : PolicyLine) → list_all (other 10) (line_bytes l) ≡ true
line_ends = line_all (other 10) (λ b h. grind arith) refl

pub text_lines : (ls : List PolicyLine) → lines_of (lines_text ls) ≡ map line_bytes ls
unfolding lines_of lines_text pieces
text_lines [] = refl
text_lines (l ∷ ls) = pieces_past 10 (line_bytes l) (lines_text ls) (line_ends l) ∙ ap (λ (ts : List Token). line_bytes l ∷ ts) (text_lines ls)

line_ascii : (l : PolicyLine) → list_all ascii (line_bytes l) ≡ true
line_ascii = line_all ascii (λ b h. grind arith) refl

pub lines_ascii : (ls : List PolicyLine) → list_all ascii (lines_text ls) ≡ true
unfolding lines_text
lines_ascii [] = refl
lines_ascii (l ∷ ls) = list_all-append ascii (line_bytes l) (10 ∷ lines_text ls) ∙ and_from _ _ (line_ascii l) (lines_ascii ls)
