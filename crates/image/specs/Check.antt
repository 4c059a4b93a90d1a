-- The faults 7 to 10 and 16: the size of an image, its form, its counts and its sums.
use Rattle.std.specs.Prelude.{ℕ, ◌+◌, ◌%◌, Bool, ◌&&◌, List, length, ◌==◌, nat_le, slice_index_or}
use Rattle.word.specs.Word.{word_limit}
use Rattle.layout.specs.Header.{form_of, rule_count_of, constraint_count_of}
use Rattle.layout.specs.Layout.{check_count, rule_word_limit, constraint_word_limit, size_limit, sum, weighted_right}

-- the fields of word 0
abbrev pub form_byte : List ℕ → ℕ
form_byte ws = form_of (slice_index_or ws 0 0)

abbrev pub rule_words : List ℕ → ℕ
rule_words ws = rule_count_of (slice_index_or ws 0 0)

abbrev pub constraint_words : List ℕ → ℕ
constraint_words ws = constraint_count_of (slice_index_or ws 0 0)

unfoldable pub well_sized : ℕ → Bool
well_sized size = nat_le 8 size && nat_le size size_limit && size % 4 == 0

unfoldable pub counts_fit : List ℕ → Bool
counts_fit ws =
    nat_le (rule_words ws) (rule_word_limit (form_byte ws)) && nat_le (constraint_words ws) (constraint_word_limit (form_byte ws))
    && length ws == 1 + rule_words ws + constraint_words ws + check_count (form_byte ws)

unfoldable pub sums_to_zero : List ℕ → Bool
sums_to_zero ws = sum ws % word_limit == 0

-- whether the word behind both parts is the weighted one of those before it, in a form that has one
unfoldable pub weights_right : List ℕ → Bool
weights_right ws = weighted_right (form_byte ws) (1 + rule_words ws + constraint_words ws) ws
