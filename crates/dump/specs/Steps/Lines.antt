-- What is printed where the bytes of some words are held, and the lines behind them follow.
use Rattle.std.specs.Prelude.{ℕ, Bool, List, ◌++◌, if◌then◌else◌}
use Rattle.report.specs.Report.{not_word_line, next_number}
use Rattle.word.specs.Word.{bytes_of}
use Rattle.dump.specs.Dump.{Dump, words, not_word, read_dump, image_answer}

abbrev pub read_behind : (held : List ℕ) → Dump → List ℕ
read_behind held (words ws) = image_answer (held ++ bytes_of ws)
read_behind held (not_word n) = not_word_line n

-- behind n lines, and, where it is broken, one more that is no word
abbrev pub read_in : (broken : Bool) (held : List ℕ) → ℕ → List (List ℕ) → List ℕ
read_in broken held n lines = if broken then not_word_line (next_number n) else read_behind held (read_dump n lines)
