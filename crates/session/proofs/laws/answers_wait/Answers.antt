use Rattle.std.proofs.Common.{◌≡◌, ℕ, true, cond, List, [], ◌∷◌, ◌++◌, refl, ap, ◌∙◌}
use Rattle.stream.specs.Lines.{add_to_whole, whole_part, due_for}
use Rattle.session.specs.Printed.{printed, runs, due}
use Rattle.session.proofs.laws.answers_wait.Goals as goal

-- all of it has ended
whole : (bytes : List ℕ) → whole_part (bytes ++ 10 ∷ []) ≡ bytes ++ 10 ∷ []
whole [] = refl
whole (byte ∷ []) = refl
whole (byte ∷ next ∷ bytes) = ap (add_to_whole byte) (whole (next ∷ bytes))

due_of : (bytes : List ℕ) → runs (bytes ++ 10 ∷ []) ≡ true → due_for runs printed [] (bytes ++ 10 ∷ []) ≡ printed (bytes ++ 10 ∷ [])
due_of [] e = ap (λ b. cond b (printed (10 ∷ [])) []) e
due_of (byte ∷ bytes) e = ap (λ b. cond b (printed (byte ∷ (bytes ++ 10 ∷ []))) []) e

pub returns : goal.returns
unfolding due
returns c bytes e = ap (due_for runs printed []) (whole bytes) ∙ due_of bytes e
