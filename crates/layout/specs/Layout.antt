-- The words of a line, and the image of a policy. The form is an argument, and word 0 holds it; of all else it tells the check words.
use Rattle.std.specs.Prelude.{ℕ, ◌+◌, ◌*◌, ◌-◌, ◌%◌, Bool, ◌&&◌, ◌||◌, if◌then◌else◌, List, [], ◌∷◌, ◌++◌, map, length, take, slice_index_or, ◌==◌, nat_le}
use Rattle.std.specs.List.{sum as sum_of}
use Rattle.policy.specs.Line.{PolicyLine, rule, constraint, heads_of, comparisons_of, ending_of}
use Rattle.policy.specs.Policy.{Policy}
use Rattle.policy.specs.declared.comparison.Comparison.{Comparison}
use Rattle.policy.specs.declared.line.Ending.{Ending}
use Rattle.policy.specs.declared.line.Test.{Test}
use Rattle.operation.specs.Parts.{test_word, comparison_words, ending_word}
use Rattle.word.specs.Word.{word_limit, bytes_of}
use Rattle.layout.specs.Header.{pack_header}

-- ---- the words of a line

-- a line from its end: each word is put before those that follow it
unfoldable pub condition_words : List Comparison → Ending → List ℕ
condition_words [] e = ending_word e ∷ []
condition_words (c ∷ cs) e = comparison_words c (length (condition_words cs e)) ++ condition_words cs e

unfoldable pub part_words : List Test → List Comparison → Ending → List ℕ
part_words [] cs e = condition_words cs e
part_words (t ∷ ts) cs e = test_word t (length (part_words ts cs e)) ∷ part_words ts cs e

unfoldable pub line_words : PolicyLine → List ℕ
line_words l = part_words (heads_of l) (comparisons_of l) (ending_of l)

unfoldable pub lines_words : List PolicyLine → List ℕ
lines_words [] = []
lines_words (l ∷ ls) = line_words l ++ lines_words ls

-- ---- forms

-- forms 1 to 5; those from 3 on are alike
unfoldable pub known_form : ℕ → Bool
known_form form = nat_le 1 form && nat_le form 5

-- form 1 has the last word alone, each other a weighted one before it
unfoldable pub check_count : ℕ → ℕ
check_count form = if form == 1 then 1 else 2

abbrev pub rule_word_limit : ℕ → ℕ
rule_word_limit form = 2176

abbrev pub constraint_word_limit : ℕ → ℕ
constraint_word_limit form = 1088

-- the largest image of any form, in bytes
abbrev pub size_limit : ℕ
size_limit = 13068

-- ---- the image

unfoldable pub sum : List ℕ → ℕ
sum ws = sum_of ws

-- the word that brings the sum to 0 modulo 2 ^ 32
unfoldable pub check_word : List ℕ → ℕ
check_word ws = (word_limit - sum ws % word_limit) % word_limit

-- each word times its index plus 1, the first of them having the index n
unfoldable pub weighted_from : ℕ → List ℕ → ℕ
weighted_from n [] = 0
weighted_from n (w ∷ ws) = w * (n + 1) + weighted_from (n + 1) ws

-- the word by which two neighbours that were exchanged are noticed
unfoldable pub weighted_word : List ℕ → ℕ
weighted_word ws = weighted_from 0 ws % word_limit

-- whether the word at an index is the weighted one of those before it; form 1 has none
unfoldable pub weighted_right : ℕ → ℕ → List ℕ → Bool
weighted_right form index ws = form == 1 || slice_index_or ws index 0 == weighted_word (take index ws)

-- the check words of a form, from the words before them: the last brings the sum of all to 0, the weighted one included
unfoldable pub check_words : ℕ → List ℕ → List ℕ
check_words form ws = if form == 1 then check_word ws ∷ [] else weighted_word ws ∷ check_word (ws ++ weighted_word ws ∷ []) ∷ []

unfoldable pub header_word : ℕ → List ℕ → List ℕ → ℕ
header_word form rules constraints = pack_header form (length rules) (length constraints)

unfoldable pub rule_part_words : Policy → List ℕ
rule_part_words p = lines_words (map rule p.rules)

unfoldable pub constraint_part_words : Policy → List ℕ
constraint_part_words p = lines_words (map constraint p.constraints)

-- word 0, the rule words and the constraint words
unfoldable pub content_words : ℕ → Policy → List ℕ
content_words form p = header_word form (rule_part_words p) (constraint_part_words p) ∷ rule_part_words p ++ constraint_part_words p

unfoldable pub image_words : ℕ → Policy → List ℕ
image_words form p = content_words form p ++ check_words form (content_words form p)

unfoldable pub image_of : ℕ → Policy → List ℕ
image_of form p = bytes_of (image_words form p)
