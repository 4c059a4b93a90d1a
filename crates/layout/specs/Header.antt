-- The fields of word 0: form (8 bits), number of rule words (12), number of constraint words (12).
use Rattle.std.specs.Prelude.{ℕ, ◌+◌, ◌*◌, ◌/◌, ◌%◌, ◌^◌}

unfoldable pub pack_header : ℕ → ℕ → ℕ → ℕ
pack_header form rule_count constraint_count = form * 2 ^ 24 + rule_count * 2 ^ 12 + constraint_count

abbrev pub form_of : ℕ → ℕ
form_of w = w / 2 ^ 24 % 256

abbrev pub rule_count_of : ℕ → ℕ
rule_count_of w = w / 2 ^ 12 % 4096

abbrev pub constraint_count_of : ℕ → ℕ
constraint_count_of w = w % 4096
