-- Laws of reading a relation: the bytes in front, and the end of their token.
use Rattle.std.proofs.Common.{arith, ℕ, cond, List, [], ◌∷◌, ◌≡◌, refl, Some, None, option_and_then, Option, option_map}
use Rattle.policy.specs.declared.comparison.Relation.{Relation}
use Rattle.lexer.proofs.KeywordLaws.{no_token}
use Rattle.lexer.specs.Byte.{bytes, bytes_equal, is}
use Rattle.lexer.specs.Token.{relation_of}
use Rattle.lexer.specs.Number.{is_empty}
use Rattle.lexer.specs.Steps.Scan.{token_in, behind_token}
use Rattle.token.specs.Steps.PartIn.{relation_before, relation_in, with_equals, symbol_in}

-- what was read, if its token ends behind it
abbrev pub at_end : {A : Type 0} → Option (A × List ℕ) → Option (A × List ℕ)
at_end {A} m = option_and_then (λ (r : A × List ℕ). cond (is_empty (token_in r.1)) (Some r) None) m

bytes_end : (t : List ℕ) → bytes_equal t [] ≡ is_empty t
unfolding bytes_equal
bytes_end t = grind arith

-- the token ends here
ends : (r : Relation) (s : List ℕ) → option_map (relation_before (behind_token s)) (cond (bytes_equal (token_in s) []) (Some r) None) ≡ at_end (Some (r, s))
ends r s = grind (arith, bytes_end, no_token)

-- `=` follows, or else the shorter relation may end here
or_equals : (x r : Relation) (s : List ℕ) → option_map (relation_before (behind_token s)) (cond (bytes_equal (token_in s) []) (Some x) (cond (bytes_equal (token_in s) (61 ∷ [])) (Some r) None)) ≡ at_end (with_equals r (Some (x, s)) s)
unfolding bytes_equal
or_equals x r [] = refl
or_equals x r (c ∷ s) = grind (arith, ends r s)

then_equals : (r : Relation) (s : List ℕ) → option_map (relation_before (behind_token s)) (cond (bytes_equal (token_in s) (61 ∷ [])) (Some r) None) ≡ at_end (with_equals r None s)
unfolding bytes_equal
then_equals r [] = refl
then_equals r (c ∷ s) = grind (arith, ends r s)

pub relation_by_symbol : (text : List ℕ) → relation_in text ≡ at_end (symbol_in text)
unfolding relation_in relation_of is bytes bytes_equal
relation_by_symbol [] = refl
relation_by_symbol (b ∷ s) =
    grind (arith, ends Relation.Equal s, then_equals Relation.NotEqual s, or_equals Relation.Less Relation.LessOrEqual s, or_equals Relation.Greater Relation.GreaterOrEqual s)
