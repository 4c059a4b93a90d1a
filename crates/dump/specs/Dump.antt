-- What the decompiler prints for all of its input: the words of an image as the compiler prints them, one a line in eight
-- hexadecimal digits, here of either case.
use Rattle.policy.specs.declared.fault.Refusal.{Refusal}
use Rattle.std.specs.Prelude.{ℕ, ◌&&◌, List, [], ◌∷◌, ◌++◌, length, ◌==◌, Result, Ok, Err, Option, Some, None, if◌then◌else◌}
use Rattle.std.specs.List.{list_all}
use Rattle.word.specs.Word.{bytes_of}
use Rattle.lexer.specs.Byte.{is_hex_digit}
use Rattle.lexer.specs.Lines.{lines_of}
use Rattle.lexer.specs.Number.{hex_number}
use Rattle.image.specs.Held.{policy_in}
use Rattle.image.specs.Load.{load, Contents}
use Rattle.printer.specs.Printed.{text_of}
use Rattle.report.specs.Report.{image_refusal_line, not_word_line, next_number}

-- ---- the words

-- the word that a line stands for
unfoldable pub word_in : List ℕ → Option ℕ
word_in line = if length line == 8 && list_all is_hex_digit line then Some (hex_number line) else None

pub data Dump : Type 0 where
  -- every line is a word
  words : List ℕ → Dump
  -- the first line that is none, counted from 1
  not_word : ℕ → Dump

-- words before a dump
unfoldable pub behind_words : List ℕ → Dump → Dump
behind_words ws (words vs) = words (ws ++ vs)
behind_words ws (not_word n) = not_word n

-- the line behind n lines, and what the lines behind it are
unfoldable pub read_word_line : ℕ → Option ℕ → Dump → Dump
read_word_line n None rest = not_word (next_number n)
read_word_line n (Some w) rest = behind_words (w ∷ []) rest

-- the lines behind n lines
unfoldable pub read_dump : ℕ → List (List ℕ) → Dump
read_dump n [] = words []
read_dump n (line ∷ lines) = read_word_line n (word_in line) (read_dump (next_number n) lines)

-- ---- what is printed

-- the loader's answer, and the text of what the image holds where it takes it
unfoldable pub loaded_answer : Result Contents Refusal → List ℕ → List ℕ
loaded_answer (Err r) text = image_refusal_line r
loaded_answer (Ok contents) text = text

unfoldable pub image_answer : List ℕ → List ℕ
image_answer image = loaded_answer (load image) (text_of (policy_in image))

unfoldable pub dump_answer : Dump → List ℕ
dump_answer (words ws) = image_answer (bytes_of ws)
dump_answer (not_word n) = not_word_line n

-- the whole: all bytes of the input to all bytes of the output
unfoldable pub restored : List ℕ → List ℕ
restored input = dump_answer (read_dump 0 (lines_of input))
