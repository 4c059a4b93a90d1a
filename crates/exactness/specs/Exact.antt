-- The notions of the statements about images: what is an image, what the loader says of it, and how it refuses.
use Rattle.std.specs.List.{swap}
use Rattle.std.specs.Prelude.{ℕ, zero, ◌+◌, ◌≤◌, ◌<◌, true, List, ◌≡◌, length, set, Result, Err}
use Rattle.policy.specs.Fault.{fault_number, refusal}
use Rattle.policy.specs.Limits.{Acceptable}
use Rattle.policy.specs.Policy.{Policy}
use Rattle.policy.specs.declared.fault.Fault.{Fault}
use Rattle.policy.specs.declared.fault.Refusal.{Refusal}
use Rattle.policy.specs.declared.fault.Source.{Source}
use Rattle.word.specs.Word.{words_of, bytes_of}
use Rattle.image.specs.Check.{form_byte, well_sized, counts_fit, sums_to_zero, weights_right}
use Rattle.layout.specs.Layout.{known_form, rule_part_words, constraint_part_words, image_of}
use Rattle.image.specs.Load.{Contents}

-- ---- images

-- the bytes are the image of some policy that an accepted text may have
pub record IsImage (bytes : List ℕ) : Type 0 where
  pub form : ℕ
  pub policy : Policy
  pub known : known_form form ≡ true
  pub acceptable : Acceptable form policy
  pub same : image_of form policy ≡ bytes

-- what stands in the image of a policy, in a form
abbrev pub contents_of : ℕ → Policy → Contents
contents_of form p = record { form = form; parts = record { rules = rule_part_words p; constraints = constraint_part_words p }; counts = record { rules = length p.rules; constraints = length p.constraints } }

-- the bytes with the value v for the word i
abbrev pub changed : List ℕ → ℕ → ℕ → List ℕ
changed bytes i v = bytes_of (set (words_of bytes) i v)

-- the bytes with the word i and the one behind it in each other's place
abbrev pub exchanged : List ℕ → ℕ → List ℕ
exchanged bytes i = bytes_of (swap (words_of bytes) i (i + 1))

-- what they are refused for, in a form that has a weighted word: the form, where one of the two is word 0
abbrev pub exchange_fault : ℕ → Fault
exchange_fault zero = Fault.ImageForm
exchange_fault _ = Fault.ImageWeightedSum

-- ---- refusals

-- the bytes pass the checks 7 to 10
pub record Checked (bytes : List ℕ) : Type 0 where
  pub size : well_sized (length bytes) ≡ true
  pub form : known_form (form_byte (words_of bytes)) ≡ true
  pub count : counts_fit (words_of bytes) ≡ true
  pub check : sums_to_zero (words_of bytes) ≡ true

-- and the check 16
pub record Weighed (bytes : List ℕ) : Type 0 where
  pub checked : Checked bytes
  pub weights : weights_right (words_of bytes) ≡ true

-- refused under one of the faults 7 to 10, at location 0
pub record RefusedEarly (answer : Result Contents Refusal) : Type 0 where
  pub fault : Fault
  pub refused : answer ≡ Err (refusal fault 0)
  pub from : 7 ≤ fault_number fault
  pub upto : fault_number fault ≤ 10

-- a refusal of so many words, in no text: one of the faults 7 to 10, or 16, at location 0, or fault 11 at one of the words behind word 0
pub data RefusalOf (words : ℕ) (r : Refusal) : Type 0 where
  of_checks : r.source ≡ Source.Neither → 7 ≤ fault_number r.fault → fault_number r.fault ≤ 10 → r.location ≡ 0 → RefusalOf words r
  of_weights : r.source ≡ Source.Neither → fault_number r.fault ≡ 16 → r.location ≡ 0 → RefusalOf words r
  of_body : r.source ≡ Source.Neither → fault_number r.fault ≡ 11 → 1 ≤ r.location → r.location < words → RefusalOf words r
