-- What one token is read as, and a comparison, which is three. Numbers of any size have the right
-- shape; ranges are tested afterwards.
use Rattle.std.specs.Str.{byte}
use Rattle.std.specs.Prelude.{ℕ, Bool, true, false, List, [], ◌∷◌, Option, Some, None, option_map, ◌==◌, if◌then◌else◌}
use Rattle.std.specs.Option.{option_or}
use Rattle.policy.specs.declared.comparison.Comparison.{Comparison}
use Rattle.policy.specs.declared.comparison.Literal.{Literal}
use Rattle.policy.specs.declared.comparison.Operand.{Operand}
use Rattle.policy.specs.declared.comparison.Relation.{Relation}
use Rattle.policy.specs.declared.number.Action.{Action}
use Rattle.policy.specs.declared.number.Event.{Event}
use Rattle.policy.specs.declared.number.Reading.{Reading}
use Rattle.lexer.specs.Byte.{is}
use Rattle.lexer.specs.Number.{number_of, constant_of}

abbrev pub Token : Type 0
Token = List ℕ

-- a letter and a number
unfoldable pub named : ℕ → Token → Option ℕ
named letter [] = None
named letter (b ∷ bs) = if b == letter then number_of bs else None

abbrev pub literal_as : Bool → ℕ → Literal
literal_as negated n = record { event = record { 0 = n }; negated = negated }

-- `E1` or `!E1`
unfoldable pub literal_of : Token → Option Literal
literal_of [] = None
literal_of (b ∷ bs) = if b == byte "!" then option_map (literal_as true) (named (byte "E") bs) else option_map (literal_as false) (named (byte "E") (b ∷ bs))

abbrev action_as : ℕ → Action
action_as n = record { 0 = n }

unfoldable pub action_of : Token → Option Action
action_of t = option_map action_as (named (byte "A") t)

abbrev event_as : ℕ → Event
event_as n = record { 0 = n }

unfoldable pub event_of : Token → Option Event
event_of t = option_map event_as (named (byte "E") t)

abbrev reading_as : ℕ → Reading
reading_as n = record { 0 = n }

unfoldable pub reading_of : Token → Option Reading
reading_of t = option_map reading_as (named (byte "R") t)

unfoldable pub relation_of : Token → Option Relation
relation_of t =
    if is "=" t then Some Relation.Equal
    else (if is "!=" t then Some Relation.NotEqual
    else (if is "<" t then Some Relation.Less
    else (if is "<=" t then Some Relation.LessOrEqual
    else (if is ">" t then Some Relation.Greater
    else (if is ">=" t then Some Relation.GreaterOrEqual else None)))))

unfoldable pub operand_of : Token → Option Operand
operand_of t = option_or (option_map Operand.Reading (reading_of t)) (option_map Operand.Constant (constant_of t))

module _ {A B C : Type 0} where
  unfoldable pub both : (A → B → C) → Option A → Option B → Option C
  both f (Some x) (Some y) = Some (f x y)
  both _ _ _ = None

abbrev pub compare : Reading → Relation → Operand → Comparison
compare reading relation operand = record { reading = reading; relation = relation; operand = operand }

-- where all three are there
abbrev pub comparison_by : Option Reading → Option Relation → Option Operand → Option Comparison
comparison_by (Some reading) (Some relation) (Some operand) = Some (compare reading relation operand)
comparison_by _ _ _ = None

-- a reading, a relation and an operand
unfoldable pub comparison_of : Token → Token → Token → Option Comparison
comparison_of r relation o = comparison_by (reading_of r) (relation_of relation) (operand_of o)
