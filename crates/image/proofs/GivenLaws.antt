-- What a walker gives: over the words of valid lines these lines.
use Rattle.std.proofs.Common.{ℕ, zero, suc, ◌+◌, ◌<◌, true, List, [], ◌∷◌, ◌++◌, ◌≡◌, refl, arith, length, take, drop, take_at, drop_at, drop-drop, length-append}
use Rattle.std.proofs.lemmas.Bool.{and_parts}
use Rattle.std.proofs.lemmas.List.{drop_min, take-map, take_min}
use Rattle.policy.specs.Limits.{valid}
use Rattle.policy.specs.Line.{PolicyLine}
use Rattle.std.specs.List.{list_all}
use Rattle.policy.specs.declared.line.Part.{Part}
use Rattle.word.proofs.ChunkLaws.{words_in_length}
use Rattle.word.specs.Chunk.{word_from, words_in}
use Rattle.layout.specs.Layout.{line_words, lines_words}
use Rattle.decode.proofs.FoundLaws.{line_some}
use Rattle.decode.proofs.ReadLaws.{line_from_is, first_skip}
use Rattle.decode.specs.Stands.{Stands}
use Rattle.decode.specs.Steps.Scan.{line_from}
use Rattle.image.specs.Walk.{lines_behind, lines_left, told_length}

lines_skip : (k : ℕ) (ws : List ℕ) → lines_behind k ws ≡ lines_behind 0 (drop k ws)
unfolding lines_behind
lines_skip zero ws = refl
lines_skip (suc k) [] = refl
lines_skip (suc k) (w ∷ ws) = lines_skip k ws

pub lines_none : (ws : List ℕ) → length ws ≡ 0 → lines_behind 0 ws ≡ []
unfolding lines_behind
lines_none [] e = refl
lines_none (w ∷ ws) e = absurd (omega arith)

-- the first line, and those behind it
pub lines_next : (ws : List ℕ) → 0 < length ws → lines_behind 0 ws ≡ line_from (take (told_length ws) ws) ∷ lines_behind 0 (drop (told_length ws) ws)
unfolding lines_behind
lines_next ws h = grind (arith, take_min, drop_min, lines_skip)

-- where the words of a valid line stand, it comes first, and then what those behind it give
line_then : (l : PolicyLine) (rest : List ℕ) → valid l ≡ true → lines_behind 0 (line_words l ++ rest) ≡ l ∷ lines_behind 0 rest
line_then l rest v = grind (arith, first_skip, length-append, lines_next, line_some, take_at, drop_at, line_from_is)

pub line_given : (ws : List ℕ) (at : ℕ) (l : PolicyLine) (rest : List ℕ) → drop at ws ≡ line_words l ++ rest → valid l ≡ true → lines_left ws at ≡ l ∷ lines_left ws (at + length (line_words l))
line_given ws at l rest e v = rw (← drop-drop (length (line_words l)) at ws, e, drop_at (line_words l) rest (length (line_words l)) refl) (line_then l rest v)

-- the same of a line that stands there
pub standing_given : (form : ℕ) (part : Part) (ws : List ℕ) (at : ℕ) (l : PolicyLine) → Stands form part (drop at ws) l → lines_left ws at ≡ l ∷ lines_left ws (at + length (line_words l))
standing_given form part ws at l s = line_given ws at l (drop (length (line_words l)) (drop at ws)) s.words s.sound

pub lines_given : (ls : List PolicyLine) → list_all valid ls ≡ true → lines_behind 0 (lines_words ls) ≡ ls
unfolding lines_words lines_behind
lines_given [] v = refl
lines_given (l ∷ ls) v = grind (arith, and_parts, line_then, lines_given ls)

-- the same of words of the image
pub lines_step : (rest : List (List ℕ)) → 0 < length rest → lines_behind 0 (words_in rest) ≡ line_from (words_in (take (told_length (words_in rest)) rest)) ∷ lines_behind 0 (drop (told_length (words_in rest)) (words_in rest))
lines_step rest h = rw (lines_next (words_in rest) (rw words_in_length h), take-map word_from (told_length (words_in rest)) rest)
