-- What a compilation that answers a size has done.
use Rattle.std.specs.Prelude.{ℕ, ◌≤◌, true, List, ◌≡◌, length, take, drop, Ok, Option, Some}
use Rattle.policy.specs.Fill.{Filled}
use Rattle.policy.specs.Limits.{Acceptable}
use Rattle.policy.specs.Policy.{Policy}
use Rattle.exactness.specs.Exact.{contents_of}
use Rattle.layout.specs.Layout.{known_form, image_of, size_limit}
use Rattle.image.specs.Load.{load}
use Rattle.image.specs.Held.{policy_in}
use Rattle.rule_text.specs.Text.{policy_of, policy_of_texts}
use Rattle.codegen.specs.Compile.{compiled, compiled_texts}

-- the first bytes of the buffer, as many as were answered
abbrev pub written_by : ℕ → Filled → List ℕ
written_by size made = take size made.buffer

-- a compilation to this form into a buffer that answered so many bytes, of texts that have this policy: they are accepted
pub record WrittenBy (form : ℕ) (known : Option Policy) (made : Filled) (buffer : List ℕ) (size : ℕ) : Type 0 where
  pub form_known : known_form form ≡ true
  -- the bytes are the policy's image, and as many as were answered
  pub policy : Policy
  pub read : known ≡ Some policy
  pub acceptable : Acceptable form policy
  pub image : written_by size made ≡ image_of form policy
  pub long : length (written_by size made) ≡ size
  -- what lies behind the image is as it was
  pub behind : drop size made.buffer ≡ drop size buffer
  pub largest : size ≤ size_limit
  -- the loader takes the bytes and holds the policy, whose image they are
  pub taken : load (written_by size made) ≡ Ok (contents_of form policy)
  pub holds : policy_in (written_by size made) ≡ policy
  pub again : image_of form (policy_in (written_by size made)) ≡ written_by size made

-- of a text
abbrev pub written_in : ℕ → ℕ → List ℕ → List ℕ → List ℕ
written_in form size text buffer = written_by size (compiled form text buffer)

abbrev pub ImageWritten : ℕ → List ℕ → List ℕ → ℕ → Type 0
ImageWritten form text buffer size = WrittenBy form (policy_of form text) (compiled form text buffer) buffer size

-- of two texts as one
abbrev pub TextsImageWritten : ℕ → List ℕ → List ℕ → List ℕ → ℕ → Type 0
TextsImageWritten form maker site buffer size = WrittenBy form (policy_of_texts form maker site) (compiled_texts form maker site buffer) buffer size
