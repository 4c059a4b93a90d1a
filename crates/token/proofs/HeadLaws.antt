-- Laws of reading a literal of a rule, or an action of a constraint.
use Rattle.std.proofs.Common.{ℕ, ◌-◌, Bool, true, false, cond, List, [], ◌∷◌, ◌≡◌, refl, arith, length, take, drop, option_map, eqb}
use Rattle.std.proofs.lemmas.List.{take_rest}
use Rattle.policy.specs.Limits.{test_number}
use Rattle.policy.specs.Number.{check_event, check_action}
use Rattle.policy.specs.declared.line.Test.{Test}
use Rattle.lexer.specs.Token.{named, literal_of, action_of}
use Rattle.lexer.specs.Steps.Scan.{name_in, event_in, action_in}
use Rattle.token.specs.Steps.PartIn.{test_in_range, test_of, literal_with, occurs_in, head_in}

pub member_by_name : (text : List ℕ) → head_in text true ≡ option_map (λ (r : ℕ × List ℕ). (option_map Test.Member (check_action r.0), r.1)) (action_in text)
unfolding head_in test_of action_of name_in test_in_range test_number
member_by_name text = grind arith

pub occurs_by_name : (text : List ℕ) (negated : Bool) → occurs_in text negated ≡ option_map (λ (r : ℕ × List ℕ). (literal_with negated (check_event r.0), r.1)) (event_in text)
unfolding occurs_in name_in literal_with test_in_range test_number
occurs_by_name text negated = grind arith

abbrev pub starts_not : List ℕ → Bool
starts_not [] = false
starts_not (b ∷ s) = eqb b 33

literal_first : (b : ℕ) (s : List ℕ) → head_in (b ∷ s) false ≡ cond (eqb b 33) (occurs_in s true) (occurs_in (b ∷ s) false)
unfolding head_in test_of occurs_in literal_of named
literal_first b s = grind arith

pub literal_by_sign : (text : List ℕ) → head_in text false ≡ cond (starts_not text) (occurs_in (take (length text - 1) (drop 1 text)) true) (occurs_in text false)
unfolding head_in test_of occurs_in literal_of named
literal_by_sign [] = refl
literal_by_sign (b ∷ s) = rw (take_rest (b ∷ s) 1) (literal_first b s)
