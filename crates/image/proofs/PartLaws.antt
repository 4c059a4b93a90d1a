-- The lines of a part, one after the other, as the code counts them.
use Rattle.std.proofs.Common.{ℕ, zero, suc, ◌+◌, ◌-◌, ◌≤◌, ◌<◌, List, ◌≡◌, refl, arith, length, drop, Ok, Err, Result}
use Rattle.policy.specs.Line.{PolicyLine}
use Rattle.layout.specs.Layout.{line_words}
use Rattle.decode.proofs.FoundLaws.{is_none, is_line, found}
use Rattle.decode.specs.Decode.{line_at, line_length}
use Rattle.image.specs.Lines.{add_line, after_line, lines_from}
use Rattle.image.specs.Steps.Part.{part_answer}
use Rattle.policy.specs.Fault.{refusal}
use Rattle.policy.specs.declared.fault.Fault.{Fault}
use Rattle.policy.specs.declared.line.Part.{Part}

count_line_is : (n : ℕ) (l : PolicyLine) (x : Result (List PolicyLine) ℕ) → part_answer n (add_line l x) ≡ part_answer (n + 1) x
unfolding part_answer add_line
count_line_is n l x = grind arith

module _ (form : ℕ) (part : Part) where
  -- a line has no more words than there are
  pub line_inside : (ws : List ℕ) → line_length (line_at form part ws) ≤ length ws
  line_inside ws = grind (arith, found, is_none, is_line)

  pub lines_next : (room at : ℕ) (ws : List ℕ) → 0 < length ws
      → lines_from form part (suc room) at ws ≡ after_line at (line_at form part ws) (λ (l : PolicyLine). lines_from form part room (at + length (line_words l)) (drop (length (line_words l)) ws))
  unfolding lines_from
  lines_next room at ws h = grind arith

  -- ---- what is counted, of the words from a word on

  -- no words are left
  pub counted_all : (room at count : ℕ) (ws : List ℕ) → length ws ≡ 0 → part_answer count (lines_from form part room at ws) ≡ Ok count
  unfolding part_answer lines_from
  counted_all room at count ws h = grind arith

  -- no room for another line
  pub counted_full : (room at count : ℕ) (ws : List ℕ) → 0 < length ws → room ≡ 0 → part_answer count (lines_from form part room at ws) ≡ Err (refusal Fault.ImageBody at)
  unfolding part_answer lines_from
  counted_full room at count ws h z = grind arith

  -- no line
  pub counted_fault : (room at count : ℕ) (ws : List ℕ) → 0 < length ws → line_length (line_at form part ws) ≡ 0 → part_answer count (lines_from form part room at ws) ≡ Err (refusal Fault.ImageBody at)
  unfolding part_answer after_line
  counted_fault zero at count ws h z = counted_full zero at count ws h refl
  counted_fault (suc room) at count ws h z = grind (arith, found, is_none, lines_next, is_line)

  -- a line more
  pub counted_more : (room at count : ℕ) (ws : List ℕ) → 0 < room → 0 < length ws → 0 < line_length (line_at form part ws)
      → part_answer count (lines_from form part room at ws) ≡ part_answer (count + 1) (lines_from form part (room - 1) (at + line_length (line_at form part ws)) (drop (line_length (line_at form part ws)) ws))
  unfolding after_line
  counted_more zero at count ws s h p = absurd (omega arith)
  counted_more (suc room) at count ws s h p = grind (arith, found, is_none, is_line, lines_next, count_line_is)
