-- Laws of reading one token of an epoch line: an event, or a reading, `=` and a constant.
use Rattle.std.proofs.Common.{ℕ, ◌-◌, Bool, false, cond, List, [], ◌∷◌, ◌++◌, append-nil, ◌≡◌, refl, arith, length, take, drop, Some, None, option_and_then, Option, option_map, eqb}
use Rattle.std.proofs.lemmas.List.{take_rest}
use Rattle.lexer.proofs.DigitLaws.{digit_inside, not_number}
use Rattle.lexer.proofs.LeadingLaws.{leading_ends, drop_through}
use Rattle.lexer.proofs.RunLaws.{all_broken}
use Rattle.lexer.specs.Byte.{is_digit}
use Rattle.lexer.specs.Token.{named, both}
use Rattle.lexer.specs.Number.{number_of, constant_of}
use Rattle.lexer.specs.Lines.{take_leading, drop_leading}
use Rattle.lexer.specs.Steps.Scan.{in_token, token_in, behind_token, clipped_before, digits_in, name_in, event_in}
use Rattle.token.specs.Steps.PartIn.{kept_before, constant_in}
use Rattle.epoch_line.specs.Epoch.{Item, value, Halves, with_left, at_equals, assignment_of, item_of, item_in_range}
use Rattle.epoch_line.specs.Steps.EpochScan.{Found, event_with, assigned_in, value_in, item_in}

-- ---- clipped numbers

-- ---- the first `=` of a token that begins with digits

-- halves with more bytes in front
prefixed : List ℕ → Option Halves → Option Halves
prefixed l None = None
prefixed l (Some h) = Some (record { left = l ++ h.left; right = h.right })

-- it stands behind them
equals_behind : (s : List ℕ) → at_equals (token_in s) ≡ prefixed (take_leading is_digit s) (at_equals (token_in (drop_leading is_digit s)))
unfolding at_equals prefixed
equals_behind [] = refl
equals_behind (b ∷ s) = grind (arith, equals_behind s)

-- ---- the value of a token, by the bytes behind its first

-- the value of a token `R` and the token in front
value_of : List ℕ → Option Item
value_of s = assignment_of (option_map (with_left 82) (at_equals (token_in s)))

-- the digits are not followed by `=`
value_broken : (l : List ℕ) (c : ℕ) (t : List ℕ) → is_digit c ≡ false → eqb c 61 ≡ false → assignment_of (option_map (with_left 82) (prefixed l (at_equals (token_in (c ∷ t))))) ≡ None
unfolding assignment_of at_equals both prefixed named
value_broken l c t e f = grind (arith, not_number, all_broken)

abbrev assigned_behind : ℕ × List ℕ → Found
assigned_behind d = assigned_in d.0 d.1

given : (t : List ℕ) (o : Option ℕ) → option_map (kept_before item_in_range (behind_token t)) (both value o (constant_of (token_in t))) ≡ option_and_then assigned_behind (option_map (clipped_before (61 ∷ t)) o)
unfolding both constant_in item_in_range
given t o = grind arith

behind_run : (run rest : List ℕ) → take_leading is_digit rest ≡ [] → option_map (kept_before item_in_range (behind_token rest)) (assignment_of (option_map (with_left 82) (prefixed run (at_equals (token_in rest))))) ≡ option_and_then assigned_behind (option_map (clipped_before rest) (number_of run))
unfolding at_equals prefixed assignment_of named
behind_run run [] h = grind arith
behind_run run (c ∷ t) h = grind (arith, append-nil run, value_broken run c t, given t (number_of run))

value_digits : (s : List ℕ) → option_map (kept_before item_in_range (behind_token s)) (value_of s) ≡ option_and_then assigned_behind (digits_in s)
unfolding value_of digits_in
value_digits s = grind (arith, drop_through in_token is_digit digit_inside s, equals_behind s, leading_ends is_digit s, behind_run (take_leading is_digit s) (drop_leading is_digit s))

-- another byte than `R`
other_value : (b : ℕ) (t : List ℕ) → eqb b 82 ≡ false → assignment_of (at_equals (b ∷ t)) ≡ None
unfolding assignment_of at_equals named both
other_value b t h = grind arith

abbrev pub starts_value : List ℕ → Bool
starts_value [] = false
starts_value (b ∷ s) = eqb b 82

value_first : (b : ℕ) (s : List ℕ) → value_in (b ∷ s) ≡ cond (eqb b 82) (option_and_then assigned_behind (digits_in s)) None
unfolding value_in at_equals assignment_of value_of
value_first b s = grind (arith, value_digits s, other_value b (token_in s))

pub value_by_digits : (line : List ℕ) → value_in line ≡ cond (starts_value line) (option_and_then (λ (d : ℕ × List ℕ). assigned_in d.0 d.1) (digits_in (take (length line - 1) (drop 1 line)))) None
unfolding value_in at_equals assignment_of
value_by_digits [] = refl
value_by_digits (b ∷ s) = rw (take_rest (b ∷ s) 1) (value_first b s)

-- ---- an event, or else a value

abbrev pub event_or : Found → Option (ℕ × List ℕ) → Found
event_or otherwise None = otherwise
event_or otherwise (Some r) = Some (event_with r.0, r.1)

pub item_by_form : (line : List ℕ) → item_in line ≡ event_or (value_in line) (event_in line)
unfolding item_in value_in item_of name_in item_in_range
item_by_form line = grind arith
