-- Laws of judging a line: by its draft as by the line.
use Rattle.std.proofs.Common.{ℕ, zero, suc, ◌<◌, Bool, true, false, cond, List, [], ◌∷◌, map, ◌≡◌, refl, sym, arith, eq-eqb, length, take, take_all, Some, None, Result, Ok, Err, Option, eqb, ltb, get_or}
use Rattle.policy.proofs.SeenLaws.{seen_repeats}
use Rattle.policy.specs.Limits.{in_range, crowded, repeated, test_number, head_limit, comparison_limit}
use Rattle.policy.specs.Steps.Seen.{seen_in}
use Rattle.policy.specs.Line.{PolicyLine, heads_of, comparisons_of, ending_of, ending_part}
use Rattle.line_value.proofs.LineLaws.{line_again, heads_fit}
use Rattle.line_value.specs.Value.{fits}
use Rattle.std.specs.List.{list_all}
use Rattle.policy.specs.Number.{set_limit}
use Rattle.policy.specs.declared.fault.Fault.{Fault}
use Rattle.policy.specs.declared.line.Test.{Test}
use Rattle.lexer.proofs.TokenLaws.{tokens_after_spaces, line_past_spaces, tokens_first}
use Rattle.lexer.specs.Lines.{behind_line, without_end}
use Rattle.lexer.specs.Number.{is_empty}
use Rattle.lexer.specs.Steps.Scan.{token_in, without_spaces, tokens_in}
use Rattle.token.specs.Steps.PartIn.{test_in_range}
use Rattle.syntax.proofs.DraftLaws.{line_range, line_held}
use Rattle.syntax.proofs.FrontLaws.{ended}
use Rattle.syntax.specs.Answer.{line_result, line_read}
use Rattle.syntax.specs.Grammar.{line_from}
use Rattle.syntax.specs.Judge.{line_for, judge_line, is_comment, tokens_answer, line_answer}
use Rattle.syntax.specs.Steps.Draft.{new_draft, line_into}
use Rattle.syntax.specs.Steps.Judged.{judged}
use Rattle.syntax.specs.Steps.Outcome.{line_outcome}
use Rattle.syntax.specs.declared.draft.Draft.{Draft}

-- ---- the line of a draft, or its first fault

all_taken : {A : Type 0} (p : A → Bool) (n : ℕ) (xs : List A) → list_all p xs ≡ true → list_all p (take n xs) ≡ true
all_taken p zero xs h = refl
all_taken p (suc n) [] h = refl
all_taken p (suc n) (x ∷ xs) h = grind (arith, all_taken p n xs)

all_numbers : (ts : List Test) → list_all (λ (n : ℕ). ltb n set_limit) (map test_number ts) ≡ list_all test_in_range ts
unfolding test_in_range
all_numbers [] = refl
all_numbers (t ∷ ts) = grind (arith, all_numbers ts)

value_repeats : (l : PolicyLine) → in_range l ≡ true → seen_in 0 (map test_number (heads_of l)) ≡ repeated l
unfolding repeated in_range test_in_range
value_repeats l h = grind (arith, seen_repeats, all_numbers)

value_of : Result (Option PolicyLine) Fault → Result PolicyLine Fault
value_of (Ok None) = Err Fault.Syntax
value_of (Err f) = Err f
value_of (Ok (Some l)) = Ok l

draft_judged : (l : PolicyLine) → judged (line_into new_draft l) ≡ value_of (judge_line (Some l))
unfolding judged judge_line value_of crowded
draft_judged l = grind (arith, line_held, line_range, take_all head_limit (heads_of l), take_all comparison_limit (comparisons_of l), line_again, value_repeats)

held_fit : (l : PolicyLine) → in_range l ≡ true → list_all (fits (ending_part (line_into new_draft l).ending)) (line_into new_draft l).heads ≡ true
held_fit l h = rw (line_held l h) (all_taken (fits (ending_part (ending_of l))) head_limit (heads_of l) (heads_fit l))

-- a line that was read, with what stands behind it
with_rest : List ℕ → Result PolicyLine Fault → Result (Option PolicyLine × List ℕ) Fault
with_rest rest (Err f) = Err f
with_rest rest (Ok l) = Ok (Some l, rest)

-- a line that is judged is accepted in range, or refused
pub data Judged (o : Option PolicyLine) : Type 0 where
  yes_line : (l : PolicyLine) → o ≡ Some l → in_range l ≡ true → crowded l ≡ false → repeated l ≡ false → judge_line o ≡ Ok (Some l) → Judged o
  no_line : (f : Fault) → judge_line o ≡ Err f → Judged o

pub judged_cases : (o : Option PolicyLine) → Judged o
unfolding judge_line
judged_cases None = no_line Fault.Syntax refl
judged_cases (Some l) = go (in_range l) refl (crowded l) refl (repeated l) refl
  where
    go : (a : Bool) → in_range l ≡ a → (b : Bool) → crowded l ≡ b → (c : Bool) → repeated l ≡ c → Judged (Some l)
    go true p true q c r = no_line Fault.TooManyParts (rw (p, q))
    go true p false q true r = no_line Fault.Duplicate (rw (p, q, r))
    go true p false q false r = yes_line l refl p q r (rw (p, q, r))
    go false p b q c r = no_line Fault.OutOfRange (rw p)

-- what is answered of a line that is judged
judged_answer : (rest : List ℕ) (l : PolicyLine) → line_result rest (judge_line (Some l)) ≡ with_rest rest (value_of (judge_line (Some l)))
unfolding line_result with_rest value_of judge_line
judged_answer rest l = grind arith

-- an accepted line is not crowded
pub accepted_uncrowded : (form : ℕ) (line : List ℕ) (l : PolicyLine) → line_answer form line ≡ Ok (Some l) → crowded l ≡ false
unfolding line_answer tokens_answer judge_line line_for
accepted_uncrowded form line l h = grind arith

-- ---- the first line of a text

-- the first byte of a token says whether it is a comment
comment_byte : (s : List ℕ) → is_empty (token_in s) ≡ false → is_comment (token_in s) ≡ eqb (get_or s 0 0) 35
unfolding is_comment
comment_byte [] h = cc
comment_byte (b ∷ s) h = grind arith

module _ (form : ℕ) (text : List ℕ) where
  abbrev start : List ℕ
  start = without_spaces text

  pub line_blank : is_empty (token_in start) ≡ true → line_read form text ≡ Ok (None, without_end start)
  unfolding line_read line_result line_answer tokens_answer tokens_in
  line_blank h = grind (arith, ended)

  module _ (h : is_empty (token_in start) ≡ false) where
    by_tokens : line_read form text ≡ line_result (without_end (behind_line start)) (cond (eqb (get_or start 0 0) 35) (Ok None) (judge_line (line_for form (line_from (tokens_in start)))))
    unfolding line_read line_answer tokens_in tokens_answer
    by_tokens = grind (arith, line_past_spaces, tokens_after_spaces, tokens_first, comment_byte)

    pub line_comment : get_or start 0 0 ≡ 35 → line_read form text ≡ Ok (None, without_end (behind_line start))
    unfolding line_result
    line_comment q = grind (arith, by_tokens, eq-eqb)

    module _ (q : eqb (get_or start 0 0) 35 ≡ false) where
      line_other : line_read form text ≡ line_result (without_end (behind_line start)) (judge_line (line_for form (line_from (tokens_in start))))
      line_other = grind (arith, by_tokens)

      pub line_misshapen : None ≡ line_outcome new_draft (behind_line start) (line_for form (line_from (tokens_in start))) → line_read form text ≡ Err Fault.Syntax
      unfolding line_outcome judge_line line_result
      line_misshapen e = grind (arith, line_other)

      module _ (d : Draft) (rest : List ℕ) (e : Some (d, rest) ≡ line_outcome new_draft (behind_line start) (line_for form (line_from (tokens_in start)))) where
        read_into : (l : PolicyLine) × (line_for form (line_from (tokens_in start)) ≡ Some l) × (d ≡ line_into new_draft l) × (rest ≡ behind_line start)
        unfolding line_outcome
        read_into = grind arith

        parted : (r : Result PolicyLine Fault) → judged d ≡ r → line_read form text ≡ with_rest (without_end rest) r
        parted r k = grind (arith, line_other, read_into, judged_answer (without_end (behind_line start)), draft_judged)

        -- the heads of a line without a fault are of the kind that its ending wants
        pub line_fitting : (l : PolicyLine) → Ok l ≡ judged d → list_all (fits (ending_part d.ending)) d.heads ≡ true
        unfolding judged
        line_fitting l k = grind (arith, read_into, line_range, held_fit)

        pub line_faulty : (f : Fault) → Err f ≡ judged d → line_read form text ≡ Err f
        unfolding with_rest
        line_faulty f k = parted (Err f) (sym k)

        pub line_good : (l : PolicyLine) → Ok l ≡ judged d → line_read form text ≡ Ok (Some l, without_end rest)
        unfolding with_rest
        line_good l k = parted (Ok l) (sym k)

pub token_inside : (s : List ℕ) → is_empty (token_in s) ≡ false → 0 < length s
token_inside [] h = cc
token_inside (b ∷ s) h = omega arith
