-- Where the first line end stands.
use Rattle.std.proofs.Common.{◌≡◌, ℕ, ◌≤◌, ◌<◌, false, List, [], ◌∷◌, ◌++◌, length, get_or, take, Option, Some, None, sym, ap, ◌∙◌, arith, eqb-true, take_all, length-take, position, get_or-take, take-suc}
use Rattle.std.specs.List.{position_or_len}
use Rattle.std.proofs.lemmas.List.Elements.{All-from_get_or}
use Rattle.std.proofs.lemmas.List.Folds.{list_any_none}
use Rattle.std.proofs.lemmas.List.Sums.{fails_before_first}
use Rattle.std.proofs.lemmas.List.Quantifiers.{position-Some}
use Rattle.lexer.specs.Byte.{is_line_end}
use Rattle.lined.specs.Lines.{HasNoEnd, EndsAt}

none_before : (bytes : List ℕ) (n : ℕ) → ((k : ℕ) → k < n → is_line_end (get_or bytes k 0) ≡ false) → HasNoEnd (take n bytes)
none_before bytes n h =
    list_any_none is_line_end (take n bytes)
    (All-from_get_or (λ b. is_line_end b ≡ false) (take n bytes) 0
    (λ k l. let within : k < n = omega (arith, length-take n bytes) in ap is_line_end (get_or-take n bytes k 0 within) ∙ h k within))

pub found_none : (bytes : List ℕ) (r : Option ℕ) → r ≡ position is_line_end bytes → r ≡ None → HasNoEnd bytes
found_none bytes r e is =
    let all : length bytes ≤ position_or_len is_line_end bytes = grind (arith, e, is) in
    rw (take_all (length bytes) bytes (omega arith)) at (none_before bytes (length bytes) (λ k l. fails_before_first is_line_end bytes k 0 (omega arith)))

pub found_some : (bytes : List ℕ) (r : Option ℕ) (n : ℕ) → r ≡ position is_line_end bytes → r ≡ Some n → EndsAt bytes n
found_some bytes r n e is =
    let (within, ends, before) = position-Some is_line_end bytes n 0 (sym e ∙ is) in
    (within, take-suc bytes n 0 within ∙ ap (λ b. take n bytes ++ b ∷ []) (eqb-true (get_or bytes n 0) 10 ends), none_before bytes n before)
