-- The loader's answer: the faults 7 to 10, 16 and 11 in their order, each with its location, or what stands in the image. Which bytes have which
-- fault is told by `ImageFault` in exactness, and that both agree is a law (`image_refused_exactly` in guarantees).
use Rattle.policy.specs.Line.{PolicyLine}
use Rattle.std.specs.Prelude.{ℕ, Bool, if◌then◌else◌, List, length, Result, Ok, Err}
use Rattle.policy.specs.Fault.{refusal}
use Rattle.policy.specs.declared.fault.Fault.{Fault}
use Rattle.policy.specs.declared.fault.Refusal.{Refusal}
use Rattle.policy.specs.declared.line.PerPart.{PerPart}
use Rattle.word.specs.Word.{words_of}
use Rattle.image.specs.Check.{form_byte, well_sized, counts_fit, sums_to_zero, weights_right}
use Rattle.layout.specs.Layout.{known_form}
use Rattle.image.specs.Lines.{rule_part, constraint_part, rule_lines, constraint_lines}

-- what stands in an image: its form, the words of both parts, and how many lines each has
pub record Contents : Type 0 where
  pub form : ℕ
  pub parts : PerPart (List ℕ)
  pub counts : PerPart ℕ

-- the answer for a form, and the words and the lines of both parts
unfoldable pub body_answer : ℕ → List ℕ → List ℕ → Result (List PolicyLine) ℕ → Result (List PolicyLine) ℕ → Result Contents Refusal
body_answer form rules constraints (Ok rs) (Ok cs) = Ok (record { form = form; parts = record { rules = rules; constraints = constraints }; counts = record { rules = length rs; constraints = length cs } })
body_answer form rules constraints (Ok rs) (Err at) = Err (refusal Fault.ImageBody at)
body_answer form rules constraints (Err at) cs = Err (refusal Fault.ImageBody at)

-- a fault at location 0, unless an earlier one applies
abbrev pub require : Bool → Fault → Result Contents Refusal → Result Contents Refusal
require passes f next = if passes then next else Err (refusal f 0)

unfoldable pub load_words : List ℕ → Result Contents Refusal
load_words ws =
    require (known_form (form_byte ws)) Fault.ImageForm
    (require (counts_fit ws) Fault.ImageCount
    (require (sums_to_zero ws) Fault.ImageSum
    (require (weights_right ws) Fault.ImageWeightedSum
    (body_answer (form_byte ws) (rule_part ws) (constraint_part ws) (rule_lines ws) (constraint_lines ws)))))

unfoldable pub load : List ℕ → Result Contents Refusal
load bytes = require (well_sized (length bytes)) Fault.ImageSize (load_words (words_of bytes))
