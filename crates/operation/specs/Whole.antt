-- Words that are whole lines, as a run goes over them: behind a word that ends no line stand others of its line, as many as its skip
-- tells, behind its constant.
use Rattle.std.specs.Prelude.{ℕ, zero, suc, ◌+◌, Bool, true, false, ◌&&◌, ◌||◌, List, [], ◌∷◌, if◌then◌else◌, ◌==◌, nat_lt, slice_index_or}
use Rattle.policy.specs.declared.line.Ending.{Ending}
use Rattle.policy.specs.declared.line.Part.{Part}
use Rattle.operation.specs.Fields.{skip_of}
use Rattle.operation.specs.Said.{says, constants_of}
use Rattle.operation.specs.declared.said.LinePart.{LinePart}

-- the endings of a part
unfoldable pub ends : Part → Ending → Bool
ends Part.Rules (Ending.Yields x) = true
ends Part.Constraints Ending.Never = true
ends _ _ = false

-- what a word says that ends a line of a part
unfoldable pub ends_line : Part → LinePart → Bool
ends_line part (LinePart.Ending e) = ends part e
ends_line _ _ = false

module _ (part : Part) where
  -- the same from a word on, of which the first so many are passed over: so many words are left of the line, none where one begins here
  unfoldable pub whole_from : ℕ → ℕ → List ℕ → Bool
  whole_from zero zero [] = true
  whole_from passed left [] = false
  whole_from (suc passed) (suc left) (w ∷ ws) = whole_from passed left ws
  whole_from (suc passed) zero (w ∷ ws) = false
  whole_from zero left (w ∷ ws) =
      let said : LinePart = says w (slice_index_or ws 0 0) in
      let behind : ℕ = constants_of said + skip_of w in
      (left == 0 || left == 1 + behind) && (if ends_line part said then behind == 0 else nat_lt 0 (skip_of w)) && whole_from (constants_of said) behind ws

  abbrev pub whole_lines : List ℕ → Bool
  whole_lines ws = whole_from 0 0 ws
