-- What is shown has no more bytes than the text that it is from.
use Rattle.std.proofs.Common.{Option, Some, None, Result, Ok, Err, ℕ, ◌+◌, ◌≤◌, Bool, List, [], ◌∷◌, arith, length}
use Rattle.policy.specs.declared.epoch.Epoch.{Epoch}
use Rattle.policy.specs.Line.{PolicyLine}
use Rattle.policy.specs.Set.{ActionSet, EventSet}
use Rattle.policy.specs.declared.fault.Refusal.{Refusal}
use Rattle.policy.specs.declared.number.Action.{Action}
use Rattle.lexer.proofs.LeadingLaws.{leading_length}
use Rattle.lexer.specs.Byte.{is_space}
use Rattle.lexer.specs.Lines.{prepend, pieces, lines_of}
use Rattle.explanation.specs.Part.{trim_start, add_to_trimmed, trim_end, trim, Stretch, Quote, of_maker, of_site, shown_at, or_later, first_from, first_shown}
use Rattle.explanation.specs.Why.{is_proposing_rule, is_cancelling_constraint, Explanation, not_proposed, accepted_by, cancelled_by, explanation_for, on_action}
use Rattle.explanation.specs.Steps.On.{on_decision, explained_on}

-- ---- of a line

added_length : (b : ℕ) (t : List ℕ) → length (add_to_trimmed b t) ≤ 1 + length t
unfolding add_to_trimmed
added_length b t = grind arith

end_length : (s : List ℕ) → length (trim_end s) ≤ length s
unfolding trim_end
end_length [] = omega arith
end_length (b ∷ s) = omega (arith, added_length b (trim_end s), end_length s)

trim_length : (s : List ℕ) → length (trim s) ≤ length s
unfolding trim trim_start
trim_length s = omega (arith, end_length (trim_start s), leading_length is_space s)

-- ---- of lines

unfoldable total : List (List ℕ) → ℕ
total [] = 0
total (l ∷ ls) = length l + total ls

pieces_total : (s : List ℕ) → total (pieces 10 s) ≤ length s
unfolding pieces prepend total
pieces_total [] = omega arith
pieces_total (b ∷ s) = grind (arith, pieces_total s)

abbrev stretch_size : Option Stretch → ℕ
stretch_size None = 0
stretch_size (Some x) = length x.bytes

found_size : (test : PolicyLine → Bool) (at : ℕ) (lines : List (List ℕ)) → stretch_size (first_from test at lines) ≤ total lines
unfolding first_from or_later shown_at total
found_size test at [] = omega arith
found_size test at (line ∷ lines) = grind (arith, found_size test (at + length line + 1) lines, trim_length line)

-- ---- of an answer

abbrev pub quote_size : Quote → ℕ
quote_size (of_maker x) = length x.bytes
quote_size (of_site x) = length x.bytes

abbrev shown_size : Option Quote → ℕ
shown_size None = 0
shown_size (Some q) = quote_size q

-- how many bytes an answer quotes
abbrev pub said_size : Result Explanation Refusal → ℕ
said_size (Err r) = 0
said_size (Ok not_proposed) = 0
said_size (Ok (accepted_by q)) = quote_size q
said_size (Ok (cancelled_by q)) = quote_size q

module _ (maker site : List ℕ) (m : ℕ) (makers : length maker ≤ m) (sites : length site ≤ m) where
  found_within : (test : PolicyLine → Bool) (text : List ℕ) → length text ≤ m → stretch_size (first_from test 0 (lines_of text)) ≤ m
  unfolding lines_of
  found_within test text h = omega (arith, h, found_size test 0 (pieces 10 text), pieces_total text)

  shown_within : (test : PolicyLine → Bool) → shown_size (first_shown test maker site) ≤ m
  unfolding first_shown
  shown_within test = grind (arith, found_within test maker makers, found_within test site sites)

  said_within : (accepts cancels : ActionSet) (e : Epoch) (a : Action) → said_size (Ok (explanation_for maker site accepts cancels e a)) ≤ m
  unfolding explanation_for
  said_within accepts cancels e a = grind (arith, shown_within (is_proposing_rule e a), shown_within (is_cancelling_constraint e.readings accepts a))

  pub said_size_on : (pending : EventSet) (line : List ℕ) (n : ℕ) (image : List ℕ) → said_size (explained_on maker site pending line n image) ≤ m
  unfolding explained_on on_decision on_action
  said_size_on pending line n image = grind (arith, said_within)
