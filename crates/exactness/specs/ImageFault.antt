-- Why and where bytes are refused as an image, by what stands in them: the checks in their order, and then the lines of both parts.
use Rattle.std.specs.Prelude.{ℕ, ◌+◌, ◌<◌, true, false, List, ◌++◌, ◌⊎◌, ◌≡◌, length}
use Rattle.policy.specs.Fault.{refusal}
use Rattle.policy.specs.Limits.{rule_limit, constraint_limit}
use Rattle.policy.specs.Line.{PolicyLine}
use Rattle.policy.specs.declared.fault.Fault.{Fault}
use Rattle.policy.specs.declared.fault.Refusal.{Refusal}
use Rattle.policy.specs.declared.line.Part.{Part}
use Rattle.word.specs.Word.{words_of}
use Rattle.layout.specs.Layout.{known_form}
use Rattle.decode.specs.Stands.{Stands, AreLines}
use Rattle.image.specs.Check.{form_byte, rule_words, well_sized, counts_fit, sums_to_zero, weights_right}
use Rattle.image.specs.Lines.{rule_part, constraint_part}
use Rattle.exactness.specs.Exact.{Checked, Weighed}

-- a location in a part up to which there are whole lines, and at which none fits: `ws` are the words of the part, of which the first has
-- the index `from`, and there is room for so many lines
pub record NoLineAt (form : ℕ) (part : Part) (room from : ℕ) (ws : List ℕ) (location : ℕ) : Type 0 where
  pub front : List ℕ
  pub before : List PolicyLine
  pub lines : AreLines form part room front before
  pub rest : List ℕ
  pub words : ws ≡ front ++ rest
  pub located : location ≡ from + length front
  -- the part goes on
  pub more : 0 < length rest
  -- but there is no room for a line more, or none stands there
  pub none_fits : (length before ≡ room) ⊎ ((l : PolicyLine) → ¬ Stands form part rest l)

-- a refusal of the bytes
pub data ImageFault (bytes : List ℕ) : Refusal → Type 0 where
  wrong_size : well_sized (length bytes) ≡ false → ImageFault bytes (refusal Fault.ImageSize 0)
  unknown_form : well_sized (length bytes) ≡ true → known_form (form_byte (words_of bytes)) ≡ false → ImageFault bytes (refusal Fault.ImageForm 0)
  wrong_count : well_sized (length bytes) ≡ true → known_form (form_byte (words_of bytes)) ≡ true → counts_fit (words_of bytes) ≡ false
      → ImageFault bytes (refusal Fault.ImageCount 0)
  wrong_sum : well_sized (length bytes) ≡ true → known_form (form_byte (words_of bytes)) ≡ true → counts_fit (words_of bytes) ≡ true → sums_to_zero (words_of bytes) ≡ false
      → ImageFault bytes (refusal Fault.ImageSum 0)
  wrong_weights : Checked bytes → weights_right (words_of bytes) ≡ false → ImageFault bytes (refusal Fault.ImageWeightedSum 0)
  no_rule : Weighed bytes → (location : ℕ) → NoLineAt (form_byte (words_of bytes)) Part.Rules rule_limit 1 (rule_part (words_of bytes)) location
      → ImageFault bytes (refusal Fault.ImageBody location)
  no_constraint : Weighed bytes → (rules : List PolicyLine) → AreLines (form_byte (words_of bytes)) Part.Rules rule_limit (rule_part (words_of bytes)) rules
      → (location : ℕ) → NoLineAt (form_byte (words_of bytes)) Part.Constraints constraint_limit (1 + rule_words (words_of bytes)) (constraint_part (words_of bytes)) location
      → ImageFault bytes (refusal Fault.ImageBody location)
