-- Laws of a run: the bytes in front that pass a test. Where only bytes of a token pass it, the run in front of a token against the token.
use Rattle.std.proofs.Common.{arith, ℕ, Bool, true, false, List, [], ◌∷◌, ◌++◌, append-nil, ◌≡◌, ◌∙◌}
use Rattle.std.specs.List.{list_all}
use Rattle.lexer.proofs.KeywordLaws.{no_token}
use Rattle.lexer.proofs.LeadingLaws.{take_through, drop_through}
use Rattle.lexer.specs.Number.{is_empty}
use Rattle.lexer.specs.Steps.Scan.{in_token, token_in, behind_token}
use Rattle.lexer.specs.Lines.{take_leading, drop_leading}

pub all_broken : (p : ℕ → Bool) (run : List ℕ) (c : ℕ) (q : List ℕ) → p c ≡ false → list_all p (run ++ c ∷ q) ≡ false
all_broken p [] c q e = rw e
all_broken p (b ∷ run) c q e = grind (arith, all_broken p run c q e)

module _ (p : ℕ → Bool) (inside : (b : ℕ) → p b ≡ true → in_token b ≡ true) where
  -- a token that ends where the run does is the run
  pub whole_token : (text : List ℕ) → is_empty (token_in (drop_leading p text)) ≡ true → token_in text ≡ take_leading p text
  whole_token text h = grind (arith, take_through in_token p inside text, append-nil)

  pub same_end : (text : List ℕ) → is_empty (token_in (drop_leading p text)) ≡ true → behind_token text ≡ drop_leading p text
  same_end text h = drop_through in_token p inside text ∙ no_token (drop_leading p text) h

  -- in another some byte fails
  pub broken_token : (text : List ℕ) → is_empty (token_in (drop_leading p text)) ≡ false → list_all p (token_in text) ≡ false
  broken_token [] h = cc
  broken_token (b ∷ s) h = grind (arith, inside b, broken_token s)
