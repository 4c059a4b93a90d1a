-- What stands in front of a text, read as a part of a line: the part, none where a number of it is out of range, and what stands
-- behind it.
use Rattle.std.specs.Str.{byte}
use Rattle.std.specs.Prelude.{ℕ, Bool, true, false, List, [], ◌∷◌, ℤ, pos, Some, None, Option, option_map, ◌==◌, nat_lt, if◌then◌else◌}
use Rattle.policy.specs.Limits.{is_reading_value, operand_in_range, comparison_in_range, test_number}
use Rattle.policy.specs.Number.{set_limit, check_reading}
use Rattle.policy.specs.declared.comparison.Comparison.{Comparison}
use Rattle.policy.specs.declared.comparison.Operand.{Operand}
use Rattle.policy.specs.declared.comparison.Relation.{Relation}
use Rattle.policy.specs.declared.line.Test.{Test}
use Rattle.policy.specs.declared.number.Event.{Event}
use Rattle.policy.specs.declared.number.Reading.{Reading}
use Rattle.lexer.specs.Token.{Token, named, literal_as, literal_of, action_of, relation_of, operand_of, comparison_of}
use Rattle.lexer.specs.Number.{number_of, negative, decimal_of, pattern_of, hexadecimal_of, constant_of}
use Rattle.lexer.specs.Steps.Scan.{token_in, behind_token, without_spaces}

module _ {A : Type 0} (ok : A → Bool) where
  -- a part that is in range
  abbrev pub kept : A → Option A
  kept x = if ok x then Some x else None

  -- a part, and what stands behind it
  abbrev pub kept_before : List ℕ → A → Option A × List ℕ
  kept_before rest x = (kept x, rest)

  -- the token in front, by how it is read
  abbrev pub part_in : (Token → Option A) → List ℕ → Option (Option A × List ℕ)
  part_in read text = option_map (kept_before (behind_token text)) (read (token_in text))

-- ---- constants

-- a number as a constant, without a sign or behind a minus
unfoldable pub positive_in : List ℕ → Option (Option ℤ × List ℕ)
positive_in text = part_in is_reading_value (λ (t : Token). option_map pos (number_of t)) text

unfoldable pub negative_in : List ℕ → Option (Option ℤ × List ℕ)
negative_in text = part_in is_reading_value (λ (t : Token). negative (number_of t)) text

unfoldable pub decimal_in : List ℕ → Option (Option ℤ × List ℕ)
decimal_in text = part_in is_reading_value decimal_of text

unfoldable pub pattern_in : List ℕ → Option (Option ℤ × List ℕ)
pattern_in text = part_in is_reading_value pattern_of text

unfoldable pub hexadecimal_in : List ℕ → Option (Option ℤ × List ℕ)
hexadecimal_in text = part_in is_reading_value hexadecimal_of text

unfoldable pub constant_in : List ℕ → Option (Option ℤ × List ℕ)
constant_in text = part_in is_reading_value constant_of text

-- ---- relations, of which none is out of range

abbrev pub relation_before : List ℕ → Relation → Relation × List ℕ
relation_before rest r = (r, rest)

-- the relation that the bytes in front are, the longer where two are, and what stands behind them
abbrev pub with_equals : Relation → Option (Relation × List ℕ) → List ℕ → Option (Relation × List ℕ)
with_equals r otherwise [] = otherwise
with_equals r otherwise (c ∷ s) = if c == byte "=" then Some (r, s) else otherwise

abbrev pub symbol_in : List ℕ → Option (Relation × List ℕ)
symbol_in [] = None
symbol_in (b ∷ s) =
    if b == byte "=" then Some (Relation.Equal, s)
    else (if b == byte "!" then with_equals Relation.NotEqual None s
    else (if b == byte "<" then with_equals Relation.LessOrEqual (Some (Relation.Less, s)) s
    else (if b == byte ">" then with_equals Relation.GreaterOrEqual (Some (Relation.Greater, s)) s else None)))

unfoldable pub relation_in : List ℕ → Option (Relation × List ℕ)
relation_in text = option_map (relation_before (behind_token text)) (relation_of (token_in text))

-- ---- operands

unfoldable pub operand_in : List ℕ → Option (Option Operand × List ℕ)
operand_in text = part_in operand_in_range operand_of text

-- ---- literals and actions

unfoldable pub test_in_range : Test → Bool
test_in_range t = nat_lt (test_number t) set_limit

-- an action of a constraint, or a literal of a rule
unfoldable pub test_of : Bool → Token → Option Test
test_of true t = option_map Test.Member (action_of t)
test_of false t = option_map Test.Occurs (literal_of t)

-- the literal of an event, in range or not
unfoldable pub literal_with : Bool → Option Event → Option Test
literal_with negated o = option_map (λ (e : Event). Test.Occurs (record { event = e; negated = negated })) o

-- `E1`, as such a literal
unfoldable pub occurs_in : List ℕ → Bool → Option (Option Test × List ℕ)
occurs_in text negated = part_in test_in_range (λ (t : Token). option_map (λ (n : ℕ). Test.Occurs (literal_as negated n)) (named (byte "E") t)) text

unfoldable pub head_in : List ℕ → Bool → Option (Option Test × List ℕ)
head_in text never = part_in test_in_range (test_of never) text

-- ---- comparisons

-- a comparison of a reading with an operand, each in range or not
unfoldable pub compared_with : Relation → Option Reading → Option Operand → Option Comparison
compared_with relation (Some r) (Some o) = Some (record { reading = r; relation = relation; operand = o })
compared_with _ _ _ = None

abbrev pub compared : ℕ → Relation → Option Operand → Option Comparison
compared n relation o = compared_with relation (check_reading n) o

-- the text from the token behind the one in front on
abbrev pub next_token : List ℕ → List ℕ
next_token text = without_spaces (behind_token text)

unfoldable pub comparison_in : List ℕ → Option (Option Comparison × List ℕ)
comparison_in text =
    let second : List ℕ = next_token text in
    let third : List ℕ = next_token second in
    option_map (kept_before comparison_in_range (behind_token third)) (comparison_of (token_in text) (token_in second) (token_in third))
