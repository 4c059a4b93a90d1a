-- The words of a line read back, and when a line stands at the start of words.
use Rattle.std.proofs.Common.{ℕ, true, List, [], ◌∷◌, ◌++◌, ◌↔◌, ◌≡◌, refl, ap, ◌∙◌, arith, eq-eqb, length, drop, Option, Some, None}
use Rattle.std.proofs.lemmas.Bool.{and_from, and_parts}
use Rattle.policy.specs.Limits.{valid}
use Rattle.policy.specs.Line.{PolicyLine, heads_of, comparisons_of, ending_of, ending_part}
use Rattle.std.specs.List.{list_all}
use Rattle.line_value.proofs.LineLaws.{heads_fit, line_again}
use Rattle.line_value.specs.Value.{fits, literals_among, actions_among, line_of}
use Rattle.policy.specs.declared.comparison.Comparison.{Comparison}
use Rattle.policy.specs.declared.line.Ending.{Ending}
use Rattle.policy.specs.declared.line.Test.{Test}
use Rattle.layout.specs.Layout.{line_words}
use Rattle.decode.specs.Decode.{line_at}
use Rattle.decode.specs.Stands.{in_part, Stands}
use Rattle.decode.specs.Steps.Decoding.{said_in, add_part, decode, is_prefix, stands_at, keep_if}
use Rattle.operation.specs.declared.said.LinePart.{LinePart}
use Rattle.policy.specs.declared.line.Part.{Part}
use Rattle.decode.proofs.PartLaws.{line_parts, line_said}

-- a line is made of its parts again
end_added : (e : Ending) (behind : Option PolicyLine) → add_part (LinePart.Ending e) behind ≡ Some (line_of [] [] e)
unfolding add_part line_of literals_among actions_among
end_added e behind = grind arith

comparison_added : (c : Comparison) (ts : List Test) (cs : List Comparison) (e : Ending) → add_part (LinePart.Comparison c) (Some (line_of ts cs e)) ≡ Some (line_of ts (c ∷ cs) e)
unfolding add_part line_of
comparison_added c ts cs e = grind arith

head_added : (t : Test) (ts : List Test) (cs : List Comparison) (e : Ending) → fits (ending_part e) t ≡ true → add_part (LinePart.Head t) (Some (line_of ts cs e)) ≡ Some (line_of (t ∷ ts) cs e)
unfolding add_part line_of literals_among actions_among fits
head_added t ts cs e f = grind arith

made_again : (e : Ending) (rest : List LinePart) (cs : List Comparison) (ts : List Test) → list_all (fits (ending_part e)) ts ≡ true → decode (line_parts ts cs e rest) ≡ Some (line_of ts cs e)
unfolding decode
made_again e rest [] [] f = end_added e (decode rest)
made_again e rest (c ∷ cs) [] f = rw (made_again e rest cs [] f) (comparison_added c [] cs e)
made_again e rest cs (t ∷ ts) f = let p = and_parts (fits (ending_part e) t) (list_all (fits (ending_part e)) ts) f in rw (made_again e rest cs ts p.1) (head_added t ts cs e p.0)

pub decode_line : (l : PolicyLine) (rest : List ℕ) → valid l ≡ true → decode (said_in 0 (line_words l ++ rest)) ≡ Some l
decode_line l rest v = rw (line_said l rest v, made_again (ending_of l) (said_in 0 rest) (comparisons_of l) (heads_of l) (heads_fit l), line_again l)

-- ---- a line at the start of words

pub prefix_in : (xs ys : List ℕ) → is_prefix xs (xs ++ ys) ≡ true
unfolding is_prefix
prefix_in [] ys = refl
prefix_in (x ∷ xs) ys = and_from _ _ (eq-eqb x x refl) (prefix_in xs ys)

pub prefix_out : (xs ys : List ℕ) → is_prefix xs ys ≡ true → ys ≡ xs ++ drop (length xs) ys
unfolding is_prefix
prefix_out [] ys e = refl
prefix_out (x ∷ xs) [] e = cc
prefix_out (x ∷ xs) (y ∷ ys) e = grind (arith, prefix_out xs ys)

-- a valid line of the part is found where its words stand
pub line_in_is : (form : ℕ) (part : Part) (l : PolicyLine) (rest : List ℕ) → in_part form part l ≡ true → valid l ≡ true → line_at form part (line_words l ++ rest) ≡ Some l
unfolding line_at keep_if stands_at
line_in_is form part l rest i v = rw (decode_line l rest v, i, v, prefix_in (line_words l) rest)

kept : (form : ℕ) (part : Part) (ws : List ℕ) (l : PolicyLine) (found : Option PolicyLine) → keep_if (stands_at form part ws) found ≡ Some l → (in_part form part l ≡ true) × (valid l ≡ true) × (is_prefix (line_words l) ws ≡ true)
unfolding keep_if stands_at
kept form part ws l found e = grind arith

-- what is found stands there
pub line_out : (form : ℕ) (part : Part) (ws : List ℕ) (l : PolicyLine) → line_at form part ws ≡ Some l → Stands form part ws l
unfolding line_at
line_out form part ws l e = let k = kept form part ws l (decode (said_in 0 ws)) e in record { kind = k.0; sound = k.1; words = prefix_out (line_words l) ws k.2 }

-- where nothing is found, no valid line of the part stands
pub line_none : (form : ℕ) (part : Part) (ws : List ℕ) → line_at form part ws ≡ None → (l : PolicyLine) (rest : List ℕ) → in_part form part l ≡ true → valid l ≡ true → ws ≡ line_words l ++ rest → ⊥
line_none form part ws e l rest i v q = cc (line_in_is form part l rest i v)

-- what stands is found, so there is one line at most that does
pub line_found_exactly : (form : ℕ) (part : Part) (ws : List ℕ) (l : PolicyLine) → (line_at form part ws ≡ Some l) ↔ Stands form part ws l
line_found_exactly form part ws l =
    (line_out form part ws l, λ s. ap (line_at form part) s.words ∙ line_in_is form part l (drop (length (line_words l)) ws) s.kind s.sound)

pub one_line_stands : (form : ℕ) (part : Part) (ws : List ℕ) (l m : PolicyLine) → Stands form part ws l → Stands form part ws m → l ≡ m
one_line_stands form part ws l m a b = cc ((line_found_exactly form part ws l).1 a, (line_found_exactly form part ws m).1 b)
