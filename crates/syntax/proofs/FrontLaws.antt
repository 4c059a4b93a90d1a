-- Laws of the first token of a line: either there is none, or it stands before the others.
use Rattle.std.proofs.Common.{ℕ, ◌<◌, true, false, List, [], ◌∷◌, ◌≡◌, refl, sym, ◌∙◌, arith, length, Some}
use Rattle.lexer.proofs.KeywordLaws.{keyword_some}
use Rattle.lexer.proofs.LeadingLaws.{leading_length}
use Rattle.lexer.proofs.TokenLaws.{tokens_after_spaces, tokens_first, tokens_ended, line_past_spaces, line_past_token, line_ended}
use Rattle.lexer.specs.Byte.{is_space}
use Rattle.lexer.specs.Lines.{behind_line}
use Rattle.lexer.specs.Number.{is_empty}
use Rattle.lexer.specs.Token.{Token}
use Rattle.lexer.specs.Steps.Scan.{in_token, token_in, behind_token, without_spaces, keyword_in, tokens_in}

-- ---- the first token

-- what stands behind the first token
abbrev pub behind_first : List ℕ → List ℕ
behind_first text = behind_token (without_spaces text)

abbrev pub first_token : List ℕ → Token
first_token text = token_in (without_spaces text)

-- the line has no token
pub record Ended (text : List ℕ) : Type 0 where
  pub tokens : tokens_in text ≡ []
  pub line : behind_line text ≡ without_spaces text

-- the line has a token before others
pub record Started (text : List ℕ) : Type 0 where
  pub tokens : tokens_in text ≡ first_token text ∷ tokens_in (behind_first text)
  pub line : behind_line (behind_first text) ≡ behind_line text
  pub shorter : length (behind_first text) < length text

-- no space stands before a token
pub no_space : (text : List ℕ) → is_empty (token_in text) ≡ false → without_spaces text ≡ text
no_space [] h = refl
no_space (b ∷ s) h = grind arith

token_length : (t : Token) → is_empty t ≡ false → 0 < length t
token_length t h = grind arith

module _ (text : List ℕ) where
  pub ended : is_empty (first_token text) ≡ true → Ended text
  ended h = record { tokens = tokens_ended text h; line = line_ended text h }

  pub started : is_empty (first_token text) ≡ false → Started text
  started h =
      record {
        tokens = sym (tokens_after_spaces text) ∙ tokens_first (without_spaces text) h;
        line = line_past_token (without_spaces text) ∙ line_past_spaces text;
        shorter = omega (arith, leading_length is_space text, leading_length in_token (without_spaces text), token_length (first_token text) h);
      }

-- a keyword, and what stands behind it
pub record Worded (text word rest : List ℕ) : Type 0 where
  pub tokens : tokens_in text ≡ word ∷ tokens_in rest
  pub line : behind_line rest ≡ behind_line text
  pub shorter : length rest < length text

pub worded : (text word rest : List ℕ) → is_empty word ≡ false → keyword_in (without_spaces text) word ≡ Some rest → Worded text word rest
worded text word rest n e = grind (arith, keyword_some (without_spaces text) word rest e, started text)
