-- What the compiler prints for all of its input, or for two texts (docs/REFERENCE.md, "The programs").
use Rattle.std.specs.Prelude.{ℕ, List, [], ◌∷◌, ◌++◌, Result, Ok, Err}
use Rattle.policy.specs.Policy.{Policy}
use Rattle.policy.specs.declared.fault.Refusal.{Refusal}
use Rattle.rule_text.specs.Text.{read_text, read_texts}
use Rattle.word.specs.Word.{words_of}
use Rattle.layout.specs.Layout.{image_of}
use Rattle.codegen.specs.Compile.{newest_form}
use Rattle.report.specs.Report.{word_line, refusal_line, texts_refusal_line}

-- one word a line
unfoldable pub word_lines : List ℕ → List ℕ
word_lines [] = []
word_lines (w ∷ ws) = word_line w ++ word_lines ws

-- what was read, with the line that a refusal prints
unfoldable pub listing_of : (Refusal → List ℕ) → Result Policy Refusal → List ℕ
listing_of refused (Err r) = refused r
listing_of refused (Ok policy) = word_lines (words_of (image_of newest_form policy))

-- the whole: all bytes of the input, which is the text, to all bytes of the output
unfoldable pub listed : List ℕ → List ℕ
listed text = listing_of refusal_line (read_text newest_form text)

-- the same of the maker's and the site's text as one
unfoldable pub listed_texts : List ℕ → List ℕ → List ℕ
listed_texts maker site = listing_of texts_refusal_line (read_texts newest_form maker site)
