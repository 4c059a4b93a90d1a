-- What the compiler prints of an image, its words one a line, is read as those words.
use Rattle.std.proofs.Common.{◌≡◌, ℕ, zero, suc, ◌+◌, ◌*◌, ◌/◌, ◌%◌, ◌^◌, ◌<◌, true, List, [], ◌∷◌, ◌++◌, map, length, refl, ap, ◌∙◌, append_assoc, arith, fold, Some}
use mathlib.Core.List.{flatten}
use Rattle.std.proofs.lemmas.Bool.Decides.{nat_tests}
use Rattle.std.specs.List.{list_all}
use Rattle.lexer.specs.Byte.{hex_value, is_hex_digit}
use Rattle.lined.proofs.InputLaws.{lines_first}
use Rattle.lined.specs.Lines.{HasNoEnd}
use Rattle.lexer.specs.Lines.{pieces, lines_of}
use Rattle.lexer.specs.Number.{hex_number}
use Rattle.word.specs.Word.{word_limit, Below, Bytes, words_of}
use Rattle.word.proofs.WordLaws.{words_below, bytes_of_words}
use Rattle.output.specs.Number.{hex_digit, hex_digits, hex_word, hex_digit_value}
use Rattle.output.proofs.HexLaws.{word_value}
use Rattle.report.specs.Report.{word_line, next_number}
use Rattle.dump.specs.Dump.{word_in, words, behind_words, read_word_line, read_dump, image_answer, dump_answer, restored}
use Rattle.dump.proofs.WordLaws.{word_some}

-- ---- the digits of a word

digit_read : (d : ℕ) → d < 16 → (hex_value (hex_digit d) < 16) × (hex_value (hex_digit d) ≡ hex_digit_value (hex_digit d))
unfolding hex_value hex_digit hex_digit_value
digit_read d h = grind arith

pub digits_hex : (k w : ℕ) → list_all is_hex_digit (hex_digits k w) ≡ true
unfolding hex_digits
digits_hex zero w = refl
digits_hex (suc k) w = grind (arith, nat_tests, digit_read (w / 2 ^ (4 * k) % 16) (omega arith), digits_hex k w)

pub digits_length : (k w : ℕ) → length (hex_digits k w) ≡ k
unfolding hex_digits
digits_length zero w = refl
digits_length (suc k) w = ap suc (digits_length k w)

digits_number : (k v w : ℕ) → fold (λ (x b : ℕ). x * 16 + hex_value b) v (hex_digits k w) ≡ fold (λ (x b : ℕ). x * 16 + hex_digit_value b) v (hex_digits k w)
unfolding hex_digits
digits_number zero v w = refl
digits_number (suc k) v w =
    let digit = w / 2 ^ (4 * k) % 16 in grind (arith, digit_read digit (omega arith), digits_number k (v * 16 + hex_digit_value (hex_digit digit)) w)

pub word_number : (w : ℕ) → w < word_limit → hex_number (hex_word w) ≡ w
word_number w h = digits_number 8 0 w ∙ word_value w h

word_read : (w : ℕ) → w < word_limit → word_in (hex_word w) ≡ Some w
word_read w h = word_some (hex_word w) (digits_length 8 w) (digits_hex 8 w) ∙ ap Some (word_number w h)

-- ---- lines of digits

hex_no_end : (line : List ℕ) → list_all is_hex_digit line ≡ true → HasNoEnd line
unfolding hex_value
hex_no_end [] h = refl
hex_no_end (b ∷ line) h = grind (arith, nat_tests, hex_no_end line)

line_first : (w : ℕ) (rest : List ℕ) → lines_of (word_line w ++ rest) ≡ hex_word w ∷ lines_of rest
unfolding word_line
line_first w rest = ap lines_of (append_assoc (hex_word w) (10 ∷ []) rest) ∙ lines_first (hex_word w) rest (hex_no_end (hex_word w) (digits_hex 8 w))

-- the lines of words are read as these words
pub dump_read : (n : ℕ) (ws : List ℕ) → Below word_limit ws → read_dump n (lines_of (flatten (map word_line ws))) ≡ words ws
unfolding flatten read_dump read_word_line behind_words lines_of pieces
dump_read n [] h = refl
dump_read n (w ∷ ws) h =
    rw (line_first w (flatten (map word_line ws)), word_read w (h 0)) (ap (behind_words (w ∷ [])) (dump_read (next_number n) ws (λ i. h (suc i))))

-- so what is printed for the words of an image is what is printed for the image
pub restored_image : (image : List ℕ) → Bytes image → length image % 4 ≡ 0 → restored (flatten (map word_line (words_of image))) ≡ image_answer image
unfolding restored dump_answer
restored_image image bounded e =
    ap dump_answer (dump_read 0 (words_of image) (words_below image bounded)) ∙ ap image_answer (bytes_of_words image bounded e)
