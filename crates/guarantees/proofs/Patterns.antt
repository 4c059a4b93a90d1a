-- A constant in hexadecimal digits and the words of an image.
use Rattle.std.proofs.Common.{ℕ, ◌<◌, List, [], ◌∷◌, ◌≡◌, sym, ap, ◌∙◌, arith, ℤ, to_z-of_z, w32, of_z, to_z, Some}
use Rattle.policy.proofs.ConstantLaws.{reading_value_is}
use Rattle.policy.specs.declared.comparison.Operand.{Operand}
use Rattle.lexer.specs.Number.{hex_number, constant_of}
use Rattle.acceptance.proofs.Patterns.{pattern_read}
use Rattle.acceptance.specs.Patterns.{prefixed, IsPattern}
use Rattle.word.specs.Word.{word_limit}
use Rattle.operation.specs.Parts.{constant_words}
use Rattle.output.specs.Number.{hex_word}
use Rattle.dump.proofs.PrintedLaws.{digits_hex, digits_length, word_number}

-- a pattern stands in the image as it is
pub pattern_stored : (ds : List ℕ) → IsPattern ds → (k : ℤ) → constant_of (prefixed ds) ≡ Some k → constant_words (Operand.Constant k) ≡ hex_number ds ∷ []
unfolding constant_words
pattern_stored ds p k e =
    let r = pattern_read ds p in
    let same : r.0 ≡ k = cc (sym r.1 ∙ e) in
    ap (λ (n : ℕ). n ∷ []) (ap (of_z w32) (sym same) ∙ r.2.word)

-- a word that the compiler prints, behind `0x`, is the constant of that word
pub printed_read : (w : ℕ) → w < word_limit → constant_of (prefixed (hex_word w)) ≡ Some (to_z w32 w)
printed_read w h =
    let p : IsPattern (hex_word w) = record { digits = digits_hex 8 w; some_digit = omega (arith, digits_length 8 w); few = omega (arith, digits_length 8 w) } in
    let r = pattern_read (hex_word w) p in
    r.1 ∙ ap Some (sym (to_z-of_z {w = w32} (reading_value_is r.0 r.2.value)) ∙ ap (to_z w32) (r.2.word ∙ word_number w h))
