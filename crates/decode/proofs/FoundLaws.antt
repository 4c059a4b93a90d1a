-- One line, by the number of its words.
use Rattle.std.proofs.Common.{ℕ, ◌≤◌, ◌<◌, List, ◌≡◌, refl, ap, arith, length, drop, length-append, Option, Some, None}
use Rattle.policy.specs.Line.{PolicyLine, heads_of, comparisons_of, ending_of}
use Rattle.decode.proofs.DecodeLaws.{line_out}
use Rattle.layout.proofs.LayoutLaws.{part_length, condition_size_limit}
use Rattle.layout.specs.Layout.{line_words}
use Rattle.decode.specs.Decode.{line_at, line_length}
use Rattle.policy.specs.declared.line.Part.{Part}

pub line_some : (l : PolicyLine) → 0 < length (line_words l)
unfolding line_words
line_some l = omega (arith, part_length (heads_of l) (comparisons_of l) (ending_of l), condition_size_limit (comparisons_of l))

-- one line, by the number of its words
pub data Found (form : ℕ) (part : Part) (ws : List ℕ) (n : ℕ) : Type 0 where
  is_none : line_at form part ws ≡ None → n ≡ 0 → Found form part ws n
  is_line : (l : PolicyLine) → line_at form part ws ≡ Some l → n ≡ length (line_words l) → 0 < n → n ≤ length ws → Found form part ws n

pub found : (form : ℕ) (part : Part) (ws : List ℕ) (n : ℕ) → n ≡ line_length (line_at form part ws) → Found form part ws n
unfolding line_length
found form part ws n e = go (line_at form part ws) refl e
  where
    go : (o : Option PolicyLine) → line_at form part ws ≡ o → n ≡ line_length o → Found form part ws n
    go None q r = is_none q r
    go (Some l) q r =
        let h = line_out form part ws l q in
        let s = line_some l in
        is_line l q r (omega arith) (omega (arith, ap length h.words, length-append (line_words l) (drop (length (line_words l)) ws)))
