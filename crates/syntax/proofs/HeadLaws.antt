-- Laws of reading the heads of a line, one after another.
use Rattle.std.proofs.Common.{ℕ, ◌<◌, Bool, false, List, [], ◌∷◌, ◌≡◌, refl, arith, length, Some, None, Option, option_map}
use Rattle.policy.specs.declared.line.Test.{Test}
use Rattle.lexer.proofs.KeywordLaws.{keyword_none}
use Rattle.lexer.proofs.TokenLaws.{tokens_after_spaces, line_past_spaces}
use Rattle.lexer.specs.Byte.{bytes, bytes_equal, is}
use Rattle.lexer.specs.Lines.{behind_line}
use Rattle.lexer.specs.Number.{is_empty}
use Rattle.lexer.specs.Steps.Scan.{without_spaces, keyword_in, tokens_in}
use Rattle.lexer.specs.Token.{Token, both, literal_of, action_of, named}
use Rattle.token.proofs.PartLaws.{Parted, part_none}
use Rattle.token.specs.Steps.PartIn.{kept, test_in_range, test_of, head_in}
use Rattle.syntax.proofs.FrontLaws.{behind_first, first_token, ended, Started, started, worded}
use Rattle.syntax.specs.Grammar.{Joined, last, before, joined}
use Rattle.syntax.specs.Steps.Draft.{push_head, heads_into}
use Rattle.syntax.specs.Steps.Outcome.{HeadsRead, heads_read, heads_outcome}
use Rattle.syntax.specs.declared.draft.Draft.{Draft}

-- ---- items joined by `&`

module _ {A : Type 0} (item : Token → Option A) (t : Token) where
  joined_bad : item t ≡ None → (ts : List Token) → joined item (t ∷ ts) ≡ None
  unfolding joined both
  joined_bad h ts = grind arith

  module _ (x : A) (e : item t ≡ Some x) where
    joined_more : (ts : List Token) → joined item (t ∷ bytes "&" ∷ ts) ≡ option_map (before x) (joined item ts)
    unfolding joined both is bytes bytes_equal
    joined_more ts = grind arith

    joined_alone : joined item (t ∷ []) ≡ Some (last [] x)
    unfolding joined
    joined_alone = grind arith

    joined_last : (s : Token) (ts : List Token) → bytes_equal s (bytes "&") ≡ false → joined item (t ∷ s ∷ ts) ≡ Some (last (s ∷ ts) x)
    unfolding joined is
    joined_last s ts h = grind arith

-- one head more
head_more : (d : Draft) (behind : List ℕ) (x : Test) (o : Option (Joined Test)) → heads_outcome d behind (option_map (before x) o) ≡ heads_outcome (push_head d (kept test_in_range x)) behind o
unfolding heads_outcome heads_into
head_more d behind x o = grind arith

test_token_is : (never : Bool) (t : Token) (x : Test) → test_of never t ≡ Some x → is_empty t ≡ false
unfolding test_of action_of literal_of named
test_token_is never t x h = grind arith

-- ---- a turn of reading

module _ (d : Draft) (never : Bool) (text : List ℕ) where
  abbrev item : Token → Option Test
  item = test_of never

  abbrev outcome : Option HeadsRead
  outcome = heads_outcome d (behind_line text) (joined item (tokens_in text))

  pub heads_failed : head_in (without_spaces text) never ≡ None → outcome ≡ None
  unfolding heads_outcome joined head_in
  heads_failed q = grind (arith, part_none test_in_range (behind_first text) (item (first_token text)) q, joined_bad item (first_token text), ended text, started text)

  module _ (part : Option Test) (e : List ℕ) (q : head_in (without_spaces text) never ≡ Some (part, e)) where
    found : Parted Test test_in_range (behind_first text) (item (first_token text)) part e
    unfolding head_in
    found = grind arith

    begun : Started text
    begun = started text (test_token_is never (first_token text) found.part found.is)

    tokens : tokens_in text ≡ first_token text ∷ tokens_in e
    tokens = grind (arith, begun, found)

    line : behind_line text ≡ behind_line e
    line = grind (arith, begun, found)

    turn : (o : Option (Joined Test)) → joined item (tokens_in text) ≡ option_map (before found.part) o → outcome ≡ heads_outcome (push_head d part) (behind_line e) o
    turn o h = grind (arith, line, head_more, found)

    module _ (b : List ℕ) (w : keyword_in (without_spaces e) (bytes "&") ≡ Some b) where
      pub heads_again : outcome ≡ heads_outcome (push_head d part) (behind_line b) (joined item (tokens_in b))
      unfolding bytes
      heads_again = grind (arith, worded e (bytes "&") b refl w, tokens, turn (joined item (tokens_in b)), joined_more item (first_token text) found.part found.is (tokens_in b))

      pub heads_less : length b < length text
      unfolding bytes
      heads_less = grind (arith, worded e (bytes "&") b refl w, begun, found)

    alone : keyword_in (without_spaces e) (bytes "&") ≡ None → joined item (first_token text ∷ tokens_in e) ≡ Some (last (tokens_in e) found.part)
    alone w = grind (arith, ended, started, joined_alone, first_token, found, keyword_none, joined_last, behind_first)

    pub heads_done : keyword_in (without_spaces e) (bytes "&") ≡ None → outcome ≡ heads_read (Some (push_head d part, without_spaces e))
    unfolding heads_outcome heads_read heads_into
    heads_done w = grind (arith, alone w, tokens, turn (Some (record { items = []; rest = tokens_in e })), line_past_spaces e, tokens_after_spaces e)
