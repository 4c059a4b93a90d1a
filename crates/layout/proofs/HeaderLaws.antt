-- Laws of word 0: packing and unpacking.
use Rattle.std.proofs.Common.{◌≡◌, ℕ, ◌<◌, arith, shr-shr}
use Rattle.word.specs.Word.{word_limit}
use Rattle.layout.specs.Header.{pack_header, form_of, rule_count_of, constraint_count_of}

module _ (form rule_count constraint_count : ℕ) (f : form < 256) (r : rule_count < 4096) (c : constraint_count < 4096) where
  pub header_below : pack_header form rule_count constraint_count < word_limit
  unfolding pack_header
  header_below = omega arith

  pub form_header : form_of (pack_header form rule_count constraint_count) ≡ form
  unfolding pack_header
  form_header = omega arith

  pub rules_header : rule_count_of (pack_header form rule_count constraint_count) ≡ rule_count
  unfolding pack_header
  rules_header = omega arith

  pub constraints_header : constraint_count_of (pack_header form rule_count constraint_count) ≡ constraint_count
  unfolding pack_header
  constraints_header = omega arith

pub header_fields : (w : ℕ) → w < word_limit → pack_header (form_of w) (rule_count_of w) (constraint_count_of w) ≡ w
unfolding pack_header
header_fields w h = omega (arith, shr-shr w 12 12)
