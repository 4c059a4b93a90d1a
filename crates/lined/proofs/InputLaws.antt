-- The lines of a whole input: those that have ended, and the open one where it has a byte.
use Rattle.std.proofs.Common.{◌≡◌, ℕ, ◌<◌, false, List, [], ◌∷◌, ◌++◌, take, refl, sym, ap, ◌∙◌, append_assoc, append-nil, arith, eqb-true}
use Rattle.std.proofs.lemmas.List.Folds.{list_any-append}
use Rattle.lexer.specs.Byte.{is_line_end}
use Rattle.lexer.specs.Lines.{prepend, pieces, lines_of}
use Rattle.stream.specs.Lines.{add_to_whole, whole_part}
use Rattle.lined.specs.Lines.{ended_behind, open_behind, ended_lines, open_line, last_line, cut_to, HasNoEnd}

-- ---- one line, and another behind it

lines_alone : (line : List ℕ) → HasNoEnd line → lines_of line ≡ last_line line
unfolding lines_of pieces prepend
lines_alone [] h = refl
lines_alone (b ∷ []) h = grind arith
lines_alone (b ∷ c ∷ line) h = grind (arith, lines_alone (c ∷ line))

pub lines_first : (line rest : List ℕ) → HasNoEnd line → lines_of (line ++ 10 ∷ rest) ≡ line ∷ lines_of rest
unfolding lines_of pieces prepend
lines_first [] rest h = refl
lines_first (b ∷ line) rest h = grind (arith, lines_first line rest)

-- a byte more
no_end_more : (line : List ℕ) (b : ℕ) → HasNoEnd line → is_line_end b ≡ false → HasNoEnd (line ++ b ∷ [])
no_end_more line b h e = list_any-append is_line_end line (b ∷ []) ∙ rw (h, e)

-- ---- all of it

all_behind : (bytes line : List ℕ) → HasNoEnd line → lines_of (line ++ bytes) ≡ ended_behind line bytes ++ last_line (open_behind line bytes)
all_behind [] line h = ap lines_of (append-nil line) ∙ lines_alone line h
all_behind (b ∷ bytes) line h = grind (arith, eqb-true, lines_first line bytes h, append_assoc line (b ∷ []) bytes, no_end_more line b h, all_behind bytes [] refl, all_behind bytes (line ++ b ∷ []))

pub all_lines : (bytes : List ℕ) → lines_of bytes ≡ ended_lines bytes ++ last_line (open_line bytes)
all_lines bytes = all_behind bytes [] refl

-- as much of each as is handed on
pub cut_last : (most : ℕ) → 0 < most → (lines : List (List ℕ)) (last : List ℕ) → cut_to most lines ++ last_line (take most last) ≡ cut_to most (lines ++ last_line last)
cut_last most h [] last = cut_one most last h
  where
    cut_one : (most : ℕ) (last : List ℕ) → 0 < most → last_line (take most last) ≡ cut_to most (last_line last)
    cut_one most last h = grind arith
cut_last most h (line ∷ lines) last = ap (λ ls. take most line ∷ ls) (cut_last most h lines last)

pub cut_lines : (most : ℕ) → 0 < most → (bytes : List ℕ) → cut_to most (ended_lines bytes) ++ last_line (take most (open_line bytes)) ≡ cut_to most (lines_of bytes)
cut_lines most h bytes = cut_last most h (ended_lines bytes) (open_line bytes) ∙ ap (cut_to most) (sym (all_lines bytes))

-- ---- up to the last line end

-- behind an open line
abbrev whole_behind : (line part : List ℕ) → List (List ℕ)
whole_behind line [] = []
whole_behind line (x ∷ part) = lines_of (line ++ x ∷ part)

whole_byte : (b : ℕ) (bytes part line : List ℕ) → HasNoEnd line → ((l : List ℕ) → HasNoEnd l → whole_behind l part ≡ ended_behind l bytes)
    → whole_behind line (add_to_whole b part) ≡ ended_behind line (b ∷ bytes)
unfolding lines_of pieces
whole_byte b bytes [] line h more = grind (arith, eqb-true, lines_first, no_end_more)
whole_byte b bytes (x ∷ part) line h more = grind (arith, eqb-true, lines_first, append_assoc, no_end_more)

whole_lines_behind : (bytes line : List ℕ) → HasNoEnd line → whole_behind line (whole_part bytes) ≡ ended_behind line bytes
whole_lines_behind [] line h = refl
whole_lines_behind (b ∷ bytes) line h = whole_byte b bytes (whole_part bytes) line h (whole_lines_behind bytes)

pub whole_lines : (bytes : List ℕ) → lines_of (whole_part bytes) ≡ ended_lines bytes
unfolding lines_of pieces
whole_lines bytes = grind (arith, whole_lines_behind bytes [] refl)
