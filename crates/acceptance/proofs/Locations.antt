-- The location of a refused text is not past its last line.
use Rattle.std.proofs.Common.{ℕ, suc, ◌+◌, ◌≤◌, ◌<◌, List, [], ◌∷◌, ◌≡◌, arith, length, Err}
use Rattle.policy.proofs.ResultLaws.{and_then_err, in_text_err}
use Rattle.policy.specs.Policy.{Policy}
use Rattle.policy.specs.Fault.{in_text}
use Rattle.policy.specs.declared.fault.Refusal.{Refusal}
use Rattle.policy.specs.declared.fault.Source.{Source}
use Rattle.lexer.specs.Lines.{prepend, pieces, lines_of}
use Rattle.rule_text.proofs.ReadLaws.{lines_refused}
use Rattle.rule_text.specs.Text.{read_lines, empty_policy, text_limit, read_text_behind, read_text, read_texts}

-- lines from the n-th on
lines_location : (form : ℕ) (ls : List (List ℕ)) (n : ℕ) (p : Policy) (x : Refusal) → read_lines form n p ls ≡ Err x → x.location < n + length ls
unfolding read_lines
lines_location form [] n p x e = let z : ⊥ = cc in absurd z
lines_location form (l ∷ ls) n p x e = grind (arith, lines_refused form n p l ls x e, lines_location form ls (suc n))

prepend_count : (b : ℕ) (ps : List (List ℕ)) → length (prepend b ps) ≤ suc (length ps)
unfolding prepend
prepend_count b ps = grind arith

pieces_count : (end : ℕ) (s : List ℕ) → length (pieces end s) ≤ length s
unfolding pieces
pieces_count end [] = omega arith
pieces_count end (b ∷ s) = grind (arith, pieces_count end s, prepend_count)

behind_location : (form : ℕ) (source : Source) (p : Policy) (text : List ℕ) (x : Refusal) → in_text source (read_text_behind form p text) ≡ Err x → x.location ≤ suc text_limit
unfolding read_text_behind lines_of
behind_location form source p text x e =
    let k = in_text_err source (read_text_behind form p text) x e in
    rw (← k.2) (grind (arith, k.1, lines_location form (pieces 10 text) 1 p k.0, pieces_count 10 text))

pub location_small : (form : ℕ) (text : List ℕ) (x : Refusal) → read_text form text ≡ Err x → x.location ≤ suc text_limit
unfolding read_text
location_small form text x e = behind_location form Source.Maker empty_policy text x e

pub locations_small : (form : ℕ) (maker site : List ℕ) (x : Refusal) → read_texts form maker site ≡ Err x → x.location ≤ suc text_limit
unfolding read_texts
locations_small form maker site x e =
    let k = and_then_err (λ (p : Policy). in_text Source.Site (read_text_behind form p site)) (read_text form maker) x e in
    grind (arith, k, location_small form maker x, λ (p : Policy). behind_location form Source.Site p site x)
