-- What it says that a line, or the lines of a text, were read.
use Rattle.std.proofs.Common.{ℕ, suc, ◌≤◌, Bool, true, false, List, ◌∷◌, ◌⊎◌, ◌≡◌, refl, arith, length, length-append, Option, Some, None, Result, Ok, Err}
use Rattle.policy.specs.Fault.{refusal}
use Rattle.policy.specs.Line.{PolicyLine, ending_of, line_part, line_count}
use Rattle.policy.specs.Policy.{Policy}
use Rattle.policy.specs.Result.{result_and_then}
use Rattle.policy.specs.declared.fault.Fault.{Fault}
use Rattle.policy.specs.declared.fault.Refusal.{Refusal}
use Rattle.policy.specs.declared.line.Part.{Part}
use Rattle.lexer.specs.Lines.{lines_of}
use Rattle.syntax.specs.Judge.{line_answer}
use Rattle.policy.specs.declared.line.PerPart.{PerPart}
use Rattle.rule_text.specs.Answer.{counts_of, counted}
use Rattle.rule_text.specs.declared.LineCounts.{LineCounts}
use Rattle.rule_text.specs.Text.{has_room, with_line, with_any_line, read_line, read_lines, text_limit, read_text_behind}

-- ---- one line behind a policy

-- what it is, and what it comes to
pub data LineRead (form : ℕ) (p : Policy) (line : List ℕ) : Type 0 where
  skips : line_answer form line ≡ Ok None → read_line form p line ≡ Ok p → LineRead form p line
  fails : (f : Fault) → line_answer form line ≡ Err f → read_line form p line ≡ Err f → LineRead form p line
  adds : (l : PolicyLine) → line_answer form line ≡ Ok (Some l) → has_room p l ≡ true → read_line form p line ≡ Ok (with_line p l) → LineRead form p line
  is_over : (l : PolicyLine) → line_answer form line ≡ Ok (Some l) → has_room p l ≡ false → read_line form p line ≡ Err Fault.TooManyLines → LineRead form p line

module _ (form : ℕ) (p : Policy) (line : List ℕ) where
  read_by : (a : Result (Option PolicyLine) Fault) → line_answer form line ≡ a → read_line form p line ≡ result_and_then (with_any_line p) a
  unfolding read_line
  read_by a h = grind arith

  pub read_skipped : line_answer form line ≡ Ok None → read_line form p line ≡ Ok p
  unfolding with_any_line
  read_skipped e = grind (arith, read_by)

  pub read_refused : (f : Fault) → line_answer form line ≡ Err f → read_line form p line ≡ Err f
  read_refused f e = read_by (Err f) e

  module _ (l : PolicyLine) (e : line_answer form line ≡ Ok (Some l)) where
    pub read_added : has_room p l ≡ true → read_line form p line ≡ Ok (with_line p l)
    unfolding with_any_line
    read_added h = grind (arith, read_by)

    pub read_over : has_room p l ≡ false → read_line form p line ≡ Err Fault.TooManyLines
    unfolding with_any_line
    read_over h = grind (arith, read_by)

  pub line_reads : LineRead form p line
  line_reads = go (line_answer form line) refl
    where
      room : (l : PolicyLine) → line_answer form line ≡ Ok (Some l) → (b : Bool) → has_room p l ≡ b → LineRead form p line
      room l e true h = LineRead.adds l e h (read_added l e h)
      room l e false h = LineRead.is_over l e h (read_over l e h)

      go : (a : Result (Option PolicyLine) Fault) → line_answer form line ≡ a → LineRead form p line
      go (Ok None) e = LineRead.skips e (read_skipped e)
      go (Ok (Some l)) e = room l e (has_room p l) refl
      go (Err f) e = LineRead.fails f e (read_refused f e)

-- ---- lines behind a policy

module _ (form : ℕ) (n : ℕ) (p : Policy) (line : List ℕ) (lines : List (List ℕ)) where
  -- where the first is read, the others come behind it
  pub first_read : (q : Policy) → read_line form p line ≡ Ok q → read_lines form n p (line ∷ lines) ≡ read_lines form (suc n) q lines
  unfolding read_lines
  first_read q h = grind arith

  pub first_refused : (f : Fault) → read_line form p line ≡ Err f → read_lines form n p (line ∷ lines) ≡ Err (refusal f n)
  unfolding read_lines
  first_refused f h = grind arith

  pub lines_read : (r : Policy) → read_lines form n p (line ∷ lines) ≡ Ok r → (q : Policy) × (read_line form p line ≡ Ok q) × (read_lines form (suc n) q lines ≡ Ok r)
  unfolding read_lines
  lines_read r h = grind arith

  pub lines_refused : (x : Refusal) → read_lines form n p (line ∷ lines) ≡ Err x
      → ((f : Fault) × (read_line form p line ≡ Err f) × (refusal f n ≡ x)) ⊎ ((q : Policy) × (read_line form p line ≡ Ok q) × (read_lines form (suc n) q lines ≡ Err x))
  unfolding read_lines
  lines_refused x h = grind arith

-- a text that is read is short enough
pub behind_read : (form : ℕ) (p : Policy) (text : List ℕ) (q : Policy) → read_text_behind form p text ≡ Ok q → (length text ≤ text_limit) × (read_lines form 1 p (lines_of text) ≡ Ok q)
unfolding read_text_behind
behind_read form p text q h = grind arith

-- ---- how many lines of each kind there are

pub count_more : (p : Policy) (l : PolicyLine) → line_count (with_line p l) (line_part l) ≡ suc (line_count p (line_part l))
unfolding with_line ending_of
count_more p l = grind (arith, length-append)

pub count_kept : (p : Policy) (l : PolicyLine) (part : Part) → line_count p part ≤ line_count (with_line p l) part
unfolding with_line
count_kept p l part = grind (arith, length-append)

-- ---- counts are those of what was read

pub counted_ok : (r : Result Policy Refusal) (c : PerPart LineCounts) → counted r ≡ Ok c → (p : Policy) × (r ≡ Ok p) × (counts_of p ≡ c)
counted_ok r c h = grind arith

pub counted_err : (r : Result Policy Refusal) (x : Refusal) → counted r ≡ Err x → r ≡ Err x
counted_err r x h = grind arith
