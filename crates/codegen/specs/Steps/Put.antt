-- How the compiler puts the lines of its texts into the buffer, one after another.
use Rattle.std.specs.Prelude.{ℕ, ◌+◌, ◌≤◌, List, [], ◌∷◌, ◌++◌, length, take, Result, Ok, Err}
use Rattle.policy.specs.Line.{PolicyLine, line_part, part_get, part_set}
use Rattle.policy.specs.declared.fault.Refusal.{Refusal}
use Rattle.policy.specs.declared.line.Part.{Part}
use Rattle.policy.specs.declared.line.PerPart.{PerPart}
use Rattle.word.specs.Steps.Write.{put_words}
use Rattle.word.specs.Word.{words_of}
use Rattle.layout.specs.Header.{pack_header}
use Rattle.layout.specs.Layout.{line_words, check_words}
use Rattle.syntax.specs.Lines.{TextLine, lines_in}
use Rattle.rule_text.specs.declared.LineCounts.{LineCounts}

-- a word for each line, literal or action, comparison and constant
abbrev pub word_count : LineCounts → ℕ
word_count c = c.lines + c.heads + c.comparisons + c.constants

-- The words at which the next rule and the next constraint go: behind a line of so many words, those of its kind are moved.
abbrev pub cursors_after : Part → PerPart ℕ → ℕ → PerPart ℕ
cursors_after part cursors n = part_set cursors part (part_get cursors part + n)

-- cursors that are far from overflowing
abbrev pub Near : ℕ → PerPart ℕ → Type 0
Near limit cursors = (part : Part) → part_get cursors part ≤ limit

-- as far behind others as 32,768 lines of 17 words
abbrev pub Further : PerPart ℕ → PerPart ℕ → Type 0
Further p q = (part : Part) → part_get q part ≤ part_get p part + 557056

-- the accepted ones of the lines of a text
unfoldable pub accepted_lines : List (Result TextLine Refusal) → List PolicyLine
accepted_lines [] = []
accepted_lines (Ok l ∷ ls) = l.line ∷ accepted_lines ls
accepted_lines (Err r ∷ ls) = []

-- the lines of the maker's text and, behind them, of the site's
abbrev pub lines_of_both : (form : ℕ) → (maker site : List ℕ) → List PolicyLine
lines_of_both form maker site = accepted_lines (lines_in form maker) ++ accepted_lines (lines_in form site)

-- the cursors behind lines
unfoldable pub cursors_behind : List PolicyLine → PerPart ℕ → PerPart ℕ
cursors_behind [] p = p
cursors_behind (l ∷ ls) p = cursors_behind ls (cursors_after (line_part l) p (length (line_words l)))

unfoldable pub put_lines : List PolicyLine → PerPart ℕ → List ℕ → List ℕ
put_lines [] p buffer = buffer
put_lines (l ∷ ls) p buffer = put_lines ls (cursors_after (line_part l) p (length (line_words l))) (put_words buffer (part_get p (line_part l)) (line_words l))

-- word 0, the lines, and the check words from the words before them
unfoldable pub put_content : ℕ → List PolicyLine → ℕ → ℕ → List ℕ → List ℕ
put_content form ls rule_count constraint_count buffer =
    put_lines ls (record { rules = 1; constraints = 1 + rule_count }) (put_words buffer 0 (pack_header form rule_count constraint_count ∷ []))

unfoldable pub put_image : ℕ → List PolicyLine → ℕ → ℕ → List ℕ → List ℕ
put_image form ls rule_count constraint_count buffer =
    let content : List ℕ = put_content form ls rule_count constraint_count buffer in
    put_words content (1 + rule_count + constraint_count) (check_words form (take (1 + rule_count + constraint_count) (words_of content)))
