-- Laws of reading the condition of a line, one comparison after another.
use Rattle.std.proofs.Common.{ℕ, ◌<◌, true, false, List, [], ◌∷◌, ◌≡◌, refl, arith, length, Some, None, Option}
use Rattle.policy.specs.Limits.{comparison_in_range}
use Rattle.policy.specs.declared.comparison.Comparison.{Comparison}
use Rattle.lexer.proofs.KeywordLaws.{keyword_none}
use Rattle.lexer.specs.Byte.{bytes, bytes_equal, is}
use Rattle.lexer.specs.Lines.{behind_line}
use Rattle.lexer.specs.Number.{is_empty, decimal_of, hexadecimal_of, constant_of}
use Rattle.lexer.specs.Steps.Scan.{without_spaces, keyword_in, tokens_in}
use Rattle.lexer.specs.Token.{Token, both, named, reading_of, relation_of, operand_of, comparison_of}
use Rattle.token.proofs.PartLaws.{Parted, part_none}
use Rattle.token.specs.Steps.PartIn.{kept, comparison_in}
use Rattle.syntax.proofs.FrontLaws.{behind_first, first_token, ended, Started, started, worded}
use Rattle.syntax.specs.Grammar.{comparisons_from, condition_from}
use Rattle.syntax.specs.Steps.Draft.{push_comparison, comparisons_into}
use Rattle.syntax.specs.Steps.Outcome.{condition_outcome}
use Rattle.syntax.specs.declared.draft.Draft.{Draft}

-- ---- a list of comparisons

module _ (r q o : Token) where
  list_bad : comparison_of r q o ≡ None → (ts : List Token) → comparisons_from (r ∷ q ∷ o ∷ ts) ≡ None
  unfolding comparisons_from both
  list_bad h ts = grind arith

  module _ (x : Comparison) (e : comparison_of r q o ≡ Some x) where
    list_alone : comparisons_from (r ∷ q ∷ o ∷ []) ≡ Some (x ∷ [])
    unfolding comparisons_from
    list_alone = grind arith

    list_more : (ts : List Token) → comparisons_from (r ∷ q ∷ o ∷ bytes "," ∷ ts) ≡ both ◌∷◌ (Some x) (comparisons_from ts)
    unfolding comparisons_from is bytes bytes_equal
    list_more ts = grind arith

    list_broken : (t : Token) (ts : List Token) → bytes_equal t (bytes ",") ≡ false → comparisons_from (r ∷ q ∷ o ∷ t ∷ ts) ≡ None
    unfolding comparisons_from is
    list_broken t ts h = grind arith

-- one comparison more
comparison_more : (d : Draft) (behind : List ℕ) (x : Comparison) (o : Option (List Comparison)) → condition_outcome d behind (both ◌∷◌ (Some x) o) ≡ condition_outcome (push_comparison d (kept comparison_in_range x)) behind o
unfolding condition_outcome comparisons_into both
comparison_more d behind x o = grind arith

-- each token of a comparison has a byte
solid_reading : (r q o : Token) (x : Comparison) → comparison_of r q o ≡ Some x → is_empty r ≡ false
unfolding comparison_of reading_of named
solid_reading r q o x h = grind arith

solid_relation : (r q o : Token) (x : Comparison) → comparison_of r q o ≡ Some x → is_empty q ≡ false
unfolding comparison_of relation_of is bytes bytes_equal
solid_relation r q o x h = grind arith

solid_operand : (r q o : Token) (x : Comparison) → comparison_of r q o ≡ Some x → is_empty o ≡ false
unfolding comparison_of operand_of reading_of named decimal_of hexadecimal_of constant_of
solid_operand r q o x h = grind arith

-- ---- a turn of reading

module _ (d : Draft) (text : List ℕ) where
  abbrev second : List ℕ
  second = behind_first text

  abbrev third : List ℕ
  third = behind_first second

  abbrev three : Option Comparison
  three = comparison_of (first_token text) (first_token second) (first_token third)

  abbrev outcome : Option (Draft × List ℕ)
  outcome = condition_outcome d (behind_line text) (comparisons_from (tokens_in text))

  pub comparisons_failed : comparison_in (without_spaces text) ≡ None → outcome ≡ None
  unfolding condition_outcome comparisons_from comparison_in
  comparisons_failed q = grind (arith, part_none, behind_first, list_bad, first_token, ended, started)

  module _ (part : Option Comparison) (e : List ℕ) (q : comparison_in (without_spaces text) ≡ Some (part, e)) where
    found : Parted Comparison comparison_in_range (behind_first third) three part e
    unfolding comparison_in
    found = grind arith

    s1 : Started text
    s1 = started text (solid_reading (first_token text) (first_token second) (first_token third) found.part found.is)

    s2 : Started second
    s2 = started second (solid_relation (first_token text) (first_token second) (first_token third) found.part found.is)

    s3 : Started third
    s3 = started third (solid_operand (first_token text) (first_token second) (first_token third) found.part found.is)

    tokens : tokens_in text ≡ first_token text ∷ first_token second ∷ first_token third ∷ tokens_in e
    tokens = grind (arith, s1, s2, s3, found)

    line : behind_line text ≡ behind_line e
    line = grind (arith, s1, s2, s3, found)

    turn : (o : Option (List Comparison)) → comparisons_from (first_token text ∷ first_token second ∷ first_token third ∷ tokens_in e) ≡ both ◌∷◌ (Some found.part) o → outcome ≡ condition_outcome (push_comparison d part) (behind_line e) o
    turn o h = grind (arith, line, tokens, comparison_more, found)

    pub comparisons_done : is_empty (first_token e) ≡ true → outcome ≡ Some (push_comparison d part, without_spaces e)
    unfolding condition_outcome comparisons_into both
    comparisons_done h = grind (arith, ended, turn, tokens, list_alone, found, line)

    pub comparisons_broken : is_empty (first_token e) ≡ false → keyword_in (without_spaces e) (bytes ",") ≡ None → outcome ≡ None
    unfolding condition_outcome
    comparisons_broken h w = grind (arith, tokens, started, list_broken, found, keyword_none)

    module _ (b : List ℕ) (w : keyword_in (without_spaces e) (bytes ",") ≡ Some b) where
      pub comparisons_again : outcome ≡ condition_outcome (push_comparison d part) (behind_line b) (comparisons_from (tokens_in b))
      unfolding bytes
      comparisons_again = grind (arith, worded e (bytes ",") b refl w, tokens, turn (comparisons_from (tokens_in b)), list_more (first_token text) (first_token second) (first_token third) found.part found.is (tokens_in b))

      pub comparisons_less : length b < length text
      unfolding bytes
      comparisons_less = grind (arith, worded e (bytes ",") b refl w, s1, s2, s3, found)

-- ---- the condition

module _ (d : Draft) (text : List ℕ) where
  abbrev condition : Option (Draft × List ℕ)
  condition = condition_outcome d (behind_line text) (condition_from (tokens_in text))

  pub condition_none : is_empty (first_token text) ≡ true → condition ≡ Some (d, without_spaces text)
  unfolding condition_from condition_outcome comparisons_into
  condition_none h = grind (arith, ended)

  pub condition_bad : is_empty (first_token text) ≡ false → keyword_in (without_spaces text) (bytes "if") ≡ None → condition ≡ None
  unfolding condition_from condition_outcome is
  condition_bad h w = grind (arith, started, keyword_none)

  pub condition_some : (b : List ℕ) → keyword_in (without_spaces text) (bytes "if") ≡ Some b → condition ≡ condition_outcome d (behind_line b) (comparisons_from (tokens_in b))
  unfolding condition_from is bytes bytes_equal
  condition_some b w = grind (arith, worded text (bytes "if") b refl w)
