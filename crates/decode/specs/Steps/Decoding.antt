-- How the line at the start of words is found: by what its words say alone a line is read, which then has to stand there. That this finds
-- what stands, and nothing else, is proved (`line_found_exactly` in proofs/DecodeLaws.antt): a reader need not believe this file.
use Rattle.std.specs.Prelude.{ℕ, zero, suc, slice_index_or, Bool, true, false, ◌&&◌, List, [], ◌∷◌, ◌==◌, if◌then◌else◌, Option, Some, None}
use Rattle.policy.specs.Limits.{valid}
use Rattle.policy.specs.Line.{PolicyLine, rule, constraint}
use Rattle.policy.specs.declared.line.Ending.{Ending}
use Rattle.policy.specs.declared.line.Part.{Part}
use Rattle.policy.specs.declared.line.Test.{Test}
use Rattle.operation.specs.Said.{says, constants_of}
use Rattle.operation.specs.declared.said.LinePart.{LinePart}
use Rattle.layout.specs.Layout.{line_words}
use Rattle.decode.specs.Stands.{in_part}

-- what words say, one after another, of which the first k are constants
unfoldable pub said_in : ℕ → List ℕ → List LinePart
said_in k [] = []
said_in (suc k) (w ∷ ws) = said_in k ws
said_in zero (w ∷ ws) =
    let said : LinePart = says w (slice_index_or ws 0 0) in
    said ∷ said_in (constants_of said) ws

-- a line with what a word says in front of it: a literal before a rule, an action before a constraint, a comparison before either. An
-- ending is a line of its own.
unfoldable pub add_part : LinePart → Option PolicyLine → Option PolicyLine
add_part (LinePart.Head (Test.Occurs l)) (Some (rule r)) = Some (rule (record { literals = l ∷ r.literals; effect = r.effect; comparisons = r.comparisons }))
add_part (LinePart.Head (Test.Member a)) (Some (constraint c)) = Some (constraint (record { actions = a ∷ c.actions; comparisons = c.comparisons }))
add_part (LinePart.Comparison c) (Some (rule r)) = Some (rule (record { literals = r.literals; effect = r.effect; comparisons = c ∷ r.comparisons }))
add_part (LinePart.Comparison c) (Some (constraint k)) = Some (constraint (record { actions = k.actions; comparisons = c ∷ k.comparisons }))
add_part (LinePart.Ending (Ending.Yields x)) _ = Some (rule (record { literals = []; effect = x; comparisons = [] }))
add_part (LinePart.Ending Ending.Never) _ = Some (constraint (record { actions = []; comparisons = [] }))
add_part _ _ = None

-- the line that parts make: skips, unused fields and the order of the parts are not looked at
unfoldable pub decode : List LinePart → Option PolicyLine
decode [] = None
decode (said ∷ rest) = add_part said (decode rest)

unfoldable pub is_prefix : List ℕ → List ℕ → Bool
is_prefix [] ys = true
is_prefix (x ∷ xs) [] = false
is_prefix (x ∷ xs) (y ∷ ys) = x == y && is_prefix xs ys

-- `Stands`, as a test
unfoldable pub stands_at : (form : ℕ) → Part → List ℕ → PolicyLine → Bool
stands_at form part ws l = in_part form part l && valid l && is_prefix (line_words l) ws

unfoldable pub keep_if : (PolicyLine → Bool) → Option PolicyLine → Option PolicyLine
keep_if p None = None
keep_if p (Some l) = if p l then Some l else None
