-- Laws of the tokens of the first line, and of where that line ends.
use Rattle.std.proofs.Common.{arith, ℕ, true, false, cond, List, [], ◌∷◌, ◌≡◌, refl, sym, ◌∙◌, eqb}
use Rattle.lexer.proofs.LeadingLaws.{leading_ends, drop_through}
use Rattle.lexer.specs.Byte.{is_space}
use Rattle.lexer.specs.Lines.{prepend, pieces, non_empty, tokens_of, take_leading, first_line, behind_line}
use Rattle.lexer.specs.Number.{is_empty}
use Rattle.lexer.specs.Steps.Scan.{token_in, behind_token, without_spaces, tokens_in}

-- ---- a text by its first byte

tokens_ending : (b : ℕ) (s : List ℕ) → b ≡ 10 → tokens_in (b ∷ s) ≡ []
unfolding tokens_in tokens_of pieces non_empty
tokens_ending b s h = grind arith

tokens_space : (b : ℕ) (s : List ℕ) → b ≡ 32 → tokens_in (b ∷ s) ≡ tokens_in s
unfolding tokens_in tokens_of pieces non_empty
tokens_space b s h = grind arith

-- the pieces behind a token
behind : List ℕ → List (List ℕ)
behind [] = []
behind (b ∷ s) = cond (eqb b 32) (pieces 32 (first_line s)) []

token_pieces : (b : ℕ) (s : List ℕ) → eqb b 32 ≡ false → eqb b 10 ≡ false → pieces 32 (first_line (b ∷ s)) ≡ (b ∷ token_in s) ∷ behind (behind_token s)
unfolding pieces prepend behind
token_pieces b [] p q = rw (q, p)
token_pieces b (c ∷ s) p q = grind (arith, token_pieces c s)

tokens_behind : (s : List ℕ) → token_in s ≡ [] → non_empty (behind s) ≡ tokens_in s
unfolding behind tokens_in tokens_of pieces non_empty
tokens_behind s h = grind arith

tokens_inside : (b : ℕ) (s : List ℕ) → eqb b 32 ≡ false → eqb b 10 ≡ false → tokens_in (b ∷ s) ≡ (b ∷ token_in s) ∷ tokens_in (behind_token s)
unfolding tokens_in tokens_of non_empty
tokens_inside b s p q = grind (arith, token_pieces b s p q, tokens_behind, leading_ends)

-- ---- the tokens

pub tokens_after_spaces : (text : List ℕ) → tokens_in (without_spaces text) ≡ tokens_in text
tokens_after_spaces [] = refl
tokens_after_spaces (b ∷ s) = grind (arith, tokens_space b s, tokens_after_spaces s)

-- the first token, and those behind it
pub tokens_first : (text : List ℕ) → is_empty (token_in text) ≡ false → tokens_in text ≡ token_in text ∷ tokens_in (behind_token text)
tokens_first [] h = cc
tokens_first (b ∷ s) h = grind (arith, tokens_inside b s)

-- no token stands where there is neither a space nor a byte of a token
tokens_none : (s : List ℕ) → take_leading is_space s ≡ [] → is_empty (token_in s) ≡ true → tokens_in s ≡ []
unfolding tokens_in tokens_of pieces non_empty
tokens_none [] h k = refl
tokens_none (b ∷ s) h k = grind (arith, tokens_ending b s)

pub tokens_ended : (text : List ℕ) → is_empty (token_in (without_spaces text)) ≡ true → tokens_in text ≡ []
tokens_ended text h = sym (tokens_after_spaces text) ∙ tokens_none (without_spaces text) (leading_ends is_space text) h

-- ---- the end of the line

pub line_past_spaces : (text : List ℕ) → behind_line (without_spaces text) ≡ behind_line text
line_past_spaces text = grind (arith, drop_through)

pub line_past_token : (text : List ℕ) → behind_line (behind_token text) ≡ behind_line text
line_past_token text = grind (arith, drop_through)

line_none : (s : List ℕ) → take_leading is_space s ≡ [] → is_empty (token_in s) ≡ true → behind_line s ≡ s
line_none [] h k = refl
line_none (b ∷ s) h k = grind arith

-- where no token stands behind the spaces, the line ends there
pub line_ended : (text : List ℕ) → is_empty (token_in (without_spaces text)) ≡ true → behind_line text ≡ without_spaces text
line_ended text h = sym (line_past_spaces text) ∙ line_none (without_spaces text) (leading_ends is_space text) h
