-- Laws of lines that come in parts.
use Rattle.std.proofs.Common.{◌≡◌, ℕ, List, [], ◌∷◌, ◌++◌, take, sym, ap, ◌∙◌, append_assoc, append-nil, arith, take-take}
use Rattle.stream.proofs.FrontLaws.{cut_before}
use Rattle.lined.specs.Lines.{ended_behind, open_behind, cut_to, HasNoEnd}

-- the lines that end, and the open one
abbrev pub cut_behind : (line bytes : List ℕ) → List (List ℕ) × List ℕ
cut_behind line bytes = (ended_behind line bytes, open_behind line bytes)

-- bytes with no line end go to the open line
pub part_behind : (line part rest : List ℕ) → HasNoEnd part → cut_behind line (part ++ rest) ≡ cut_behind (line ++ part) rest
part_behind line [] rest h = ap (λ l. cut_behind l rest) (sym (append-nil line))
part_behind line (b ∷ part) rest h = grind (arith, part_behind (line ++ b ∷ []) part rest, append_assoc)

module _ (most : ℕ) where
  pub cut_again : (line : List ℕ) → take most (take most line) ≡ take most line
  cut_again line = take-take most most line (omega arith)

  -- of the lines that end and of the open one, as much as is handed on
  abbrev pub handed : (line bytes : List ℕ) → List (List ℕ) × List ℕ
  handed line bytes = (cut_to most (ended_behind line bytes), take most (open_behind line bytes))

  handed_part : (line part rest : List ℕ) → HasNoEnd part → handed line (part ++ rest) ≡ handed (line ++ part) rest
  handed_part line part rest none = ap (λ (p : List (List ℕ) × List ℕ). (cut_to most p.0, take most p.1)) (part_behind line part rest none)

  -- as much of the open line as is handed on tells the rest
  handed_cut : (rest line : List ℕ) → handed (take most line) rest ≡ handed line rest
  handed_cut [] line = ap (λ l. ([], l)) (cut_again line)
  handed_cut (b ∷ rest) line = grind (arith, cut_again line, cut_before most line (b ∷ []), handed_cut rest (take most line ++ b ∷ []), handed_cut rest (line ++ b ∷ []))

  -- so what is kept of a line and of its part tells the rest
  pub part_handed : (most' : ℕ) (line line' part : List ℕ) → most' ≡ most → line' ≡ take most (line ++ part) → HasNoEnd part
      → (rest : List ℕ) → handed line (part ++ rest) ≡ (cut_to most' (ended_behind line' rest), take most' (open_behind line' rest))
  part_handed most' line line' part same keeps none rest = rw (same, keeps) (handed_part line part rest none ∙ sym (handed_cut rest (line ++ part)))

  pub end_handed : (most' : ℕ) (line part : List ℕ) → most' ≡ most → HasNoEnd part
      → (rest : List ℕ) → handed line ((part ++ 10 ∷ []) ++ rest) ≡ (take most (line ++ part) ∷ cut_to most' (ended_behind [] rest), take most' (open_behind [] rest))
  end_handed most' line part same none rest = rw same (ap (handed line) (append_assoc part (10 ∷ []) rest) ∙ handed_part line part (10 ∷ rest) none)
