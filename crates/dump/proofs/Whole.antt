-- What the lines of the whole input come to is what the definition prints for it.
use Rattle.std.proofs.Common.{◌≡◌, ℕ, ◌^◌, ◌<◌, ◌≤◌, true, List, [], ◌∷◌, ◌++◌, length, take, sym, refl, ap, ◌∙◌, append_assoc, append-nil, arith, length-append, Err, Some, None, is_ok}
use Rattle.std.proofs.lemmas.Bool.Decides.{nat_tests}
use Rattle.policy.specs.Fault.{fault_number, refusal}
use Rattle.policy.specs.declared.fault.Fault.{Fault}
use Rattle.policy.specs.declared.fault.Refusal.{Refusal}
use Rattle.policy.proofs.FaultLaws.{fault_number_small}
use Rattle.lexer.specs.Byte.{bytes}
use Rattle.lexer.specs.Lines.{lines_of}
use Rattle.lined.specs.Lines.{ended_lines, open_line, last_line, cut_to}
use Rattle.lined.proofs.InputLaws.{cut_lines}
use Rattle.word.specs.Word.{Bytes, words_of, byte_list, bytes_of}
use Rattle.word.proofs.WordLaws.{words_length, bytes_below}
use Rattle.image.specs.Check.{well_sized, form_byte}
use Rattle.image.specs.Held.{policy_in}
use Rattle.image.specs.Load.{load}
use Rattle.image.proofs.LoadLaws.{size_large, load_size}
use Rattle.exactness.specs.Exact.{RefusalOf}
use Rattle.exactness.proofs.Exact.{held_acceptable, refusals}
use Rattle.printer.specs.Printed.{text_of, longest_text}
use Rattle.printer.proofs.Printing.{text_length}
use Rattle.output.proofs.DecimalLaws.{decimal_short}
use Rattle.report.specs.Report.{image_refusal_line, not_word_line, next_number}
use Rattle.stream.proofs.FrontLaws.{cut_before}
use Rattle.dump.specs.Dump.{word_in, Dump, words, not_word, behind_words, read_word_line, read_dump, loaded_answer, image_answer, dump_answer, restored}
use Rattle.dump.specs.Steps.Lines.{read_behind}
use Rattle.dump.specs.Steps.Sizes.{dump_size}
use Rattle.dump.proofs.WordLaws.{cut_same, word_cut}
use Rattle.layout.specs.Layout.{size_limit}

-- ---- of the bytes of words, as many as are held tell what is printed

too_large : (image : List ℕ) → size_limit < length image → image_answer image ≡ image_refusal_line (refusal Fault.ImageSize 0)
unfolding image_answer loaded_answer
too_large image h = rw (sym (load_size image (sym (size_large (length image) (omega arith) h))))

image_cut : (image : List ℕ) → image_answer (take dump_size image) ≡ image_answer image
image_cut = cut_same dump_size image_answer (image_refusal_line (refusal Fault.ImageSize 0)) (λ image h. too_large image (omega arith))

-- with a word more
image_same : (x y more : List ℕ) → y ≡ take dump_size x → image_answer (x ++ more) ≡ image_answer (y ++ more)
image_same x y more e = cc (image_cut (x ++ more), cut_before dump_size x more, image_cut (take dump_size x ++ more))

-- ---- an image, by the loader's answer

pub refused_answer : (image : List ℕ) (r : Refusal) → load image ≡ Err r → image_answer image ≡ image_refusal_line r
unfolding image_answer loaded_answer
refused_answer image r e = rw e refl

pub taken_answer : (image : List ℕ) → is_ok (load image) ≡ true → image_answer image ≡ text_of (policy_in image)
unfolding image_answer loaded_answer
taken_answer image e = grind arith

-- ---- a line more

module _ (held : List ℕ) (n : ℕ) (line : List ℕ) where
  pub line_word : (w : ℕ) (held' : List ℕ) → word_in line ≡ Some w → held' ≡ take dump_size (held ++ byte_list w)
      → (rest : List (List ℕ)) → read_behind held (read_dump n (line ∷ rest)) ≡ read_behind held' (read_dump (next_number n) rest)
  unfolding read_dump read_word_line behind_words bytes_of
  line_word w held' e is rest = grind (arith, image_same (held ++ byte_list w) held', append_assoc held (byte_list w))

  pub line_none : word_in line ≡ None → (rest : List (List ℕ)) → read_behind held (read_dump n (line ∷ rest)) ≡ not_word_line (next_number n)
  unfolding read_dump read_word_line
  line_none e rest = rw e refl

-- no line is left
pub none_left : (held : List ℕ) (n : ℕ) → read_behind held (read_dump n []) ≡ image_answer held
unfolding read_dump bytes_of
none_left held n = ap image_answer (append-nil held)

-- ---- all of it has room

sized_few : (n : ℕ) → well_sized n ≡ true → n ≤ size_limit
unfolding well_sized
sized_few n e = grind (arith, nat_tests)

location_small : (image : List ℕ) (r : Refusal) → length image ≤ size_limit → RefusalOf (length (words_of image)) r → r.location < 2 ^ 64
location_small image r h q = grind (arith, words_length image)

refusal_small : (image : List ℕ) (r : Refusal) → load image ≡ Err r → r.location < 2 ^ 64
refusal_small image r e = grind (arith, load_size image, sized_few (length image), refusals image r e, location_small image r)

refusal_short : (r : Refusal) → r.location < 2 ^ 64 → length (image_refusal_line r) ≤ longest_text
unfolding image_refusal_line bytes
refusal_short r l = simp length-append (omega (arith, decimal_short (fault_number r.fault) (omega (arith, fault_number_small r.fault)), decimal_short r.location l))

pub image_short : (image : List ℕ) → Bytes image → length (image_answer image) ≤ longest_text
unfolding image_answer loaded_answer
image_short image bounded =
    grind (arith, refusal_short, refusal_small image, text_length (form_byte (words_of image)) (policy_in image), held_acceptable image bounded)

-- a line that is told has a number of 64 bits
Small : Dump → Type 0
Small (words ws) = Unit {0}
Small (not_word n) = n < 2 ^ 64

number_small : (n : ℕ) (lines : List (List ℕ)) → Small (read_dump n lines)
unfolding read_dump read_word_line behind_words Small
number_small n [] = tt
number_small n (line ∷ lines) = grind (arith, number_small (next_number n) lines)

pub line_short : (n : ℕ) → n < 2 ^ 64 → length (not_word_line n) ≤ longest_text
unfolding not_word_line bytes
line_short n h = simp length-append (omega (arith, decimal_short n h))

-- what is printed for any input is no longer than the longest text
pub restored_short : (input : List ℕ) → length (restored input) ≤ longest_text
unfolding restored dump_answer Small
restored_short input = grind (arith, number_small 0 (lines_of input), image_short, bytes_below, line_short)

-- ---- the whole input

lines_cut : (n : ℕ) (lines : List (List ℕ)) → read_dump n (cut_to 9 lines) ≡ read_dump n lines
unfolding read_dump
lines_cut n [] = refl
lines_cut n (line ∷ lines) = rw (word_cut line, lines_cut (next_number n) lines)

pub all_restored : (input : List ℕ) → read_behind [] (read_dump 0 (cut_to 9 (ended_lines input) ++ last_line (take 9 (open_line input)))) ≡ restored input
unfolding restored dump_answer
all_restored input =
    ap (λ ls. read_behind [] (read_dump 0 ls)) (cut_lines 9 (omega arith) input) ∙ ap (read_behind []) (lines_cut 0 (lines_of input))
    ∙ grind arith
