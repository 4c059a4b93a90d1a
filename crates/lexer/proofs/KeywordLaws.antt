-- Laws of comparing the token in front with a keyword.
use Rattle.std.proofs.Common.{ℕ, ◌<◌, true, false, List, [], ◌∷◌, ◌≡◌, refl, arith, length, Some, None}
use Rattle.lexer.specs.Byte.{bytes_equal}
use Rattle.lexer.specs.Number.{is_empty}
use Rattle.lexer.specs.Steps.Scan.{token_in, behind_token, keyword_in}

-- where no token stands, nothing is in front of what is behind it
pub no_token : (text : List ℕ) → is_empty (token_in text) ≡ true → behind_token text ≡ text
no_token [] e = refl
no_token (b ∷ s) e = grind arith

bytes_end : (t : List ℕ) → is_empty t ≡ true → bytes_equal t [] ≡ true
unfolding bytes_equal
bytes_end t h = grind arith

-- all bytes of the keyword were found, and the token ends behind them
pub keyword_whole : (text rest keyword left : List ℕ) → length left < 1 → true ≡ is_empty (token_in rest) → bytes_equal (token_in rest) left ≡ bytes_equal (token_in text) keyword → behind_token rest ≡ behind_token text → Some rest ≡ keyword_in text keyword
unfolding keyword_in
keyword_whole text rest keyword [] l h e q = grind (arith, bytes_end, no_token)
keyword_whole text rest keyword (b ∷ left) l h e q = absurd (omega arith)

-- ---- what was answered for a keyword

pub same_bytes : (s t : List ℕ) → bytes_equal s t ≡ true → s ≡ t
unfolding bytes_equal
same_bytes [] t e = grind arith
same_bytes (x ∷ xs) [] e = cc
same_bytes (x ∷ xs) (y ∷ ys) e = grind (arith, same_bytes xs ys)

module _ (text keyword : List ℕ) where
  pub keyword_some : (rest : List ℕ) → keyword_in text keyword ≡ Some rest → (token_in text ≡ keyword) × (rest ≡ behind_token text)
  unfolding keyword_in
  keyword_some rest h = grind (arith, same_bytes)

  pub keyword_none : keyword_in text keyword ≡ None → bytes_equal (token_in text) keyword ≡ false
  unfolding keyword_in
  keyword_none h = grind arith
