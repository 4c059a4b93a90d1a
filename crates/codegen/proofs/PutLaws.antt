-- Putting the lines of a text one after another: what one turn of the loop does.
use Rattle.std.proofs.Common.{Some, Result, Ok, Err, ℕ, ◌+◌, ◌*◌, ◌≤◌, List, [], ◌∷◌, ◌++◌, ◌≡◌, refl, arith, length}
use Rattle.policy.specs.Line.{PolicyLine, line_part, part_get}
use Rattle.policy.specs.declared.line.Part.{Part}
use Rattle.policy.specs.declared.line.PerPart.{PerPart}
use Rattle.policy.specs.declared.fault.Refusal.{Refusal}
use Rattle.layout.specs.Layout.{line_words}
use Rattle.exactness.proofs.PartLines.{line_limit_is}
use Rattle.word.proofs.WriteLaws.{put_length}
use Rattle.word.specs.Steps.Write.{put_words}
use Rattle.acceptance.proofs.Accepted.{accepted_valid}
use Rattle.syntax.proofs.LinesLaws.{lines_few}
use Rattle.syntax.proofs.WalkLaws.{Advanced}
use Rattle.syntax.specs.Lines.{TextLine, lines_in}
use Rattle.syntax.specs.Walk.{lines_ahead, from_first}
use Rattle.syntax.specs.declared.text.Lines.{Lines}
use Rattle.rule_text.specs.Text.{text_limit}
use Rattle.codegen.specs.Steps.Put.{cursors_after, cursors_behind, Near, Further, accepted_lines, put_lines}

-- no cursor goes further than the line is long
after_near : (part : Part) (p : PerPart ℕ) (n : ℕ) → n ≤ 17 → (k : Part) → part_get (cursors_after part p n) k ≤ part_get p k + 17
after_near part p n h k = grind arith

-- ---- what is left to put, of lines ahead

pub record Putting (form : ℕ) (text buffer₀ : List ℕ) (start : PerPart ℕ) (buffer : List ℕ) (cursors : PerPart ℕ) (ahead : List (Result TextLine Refusal)) : Type 0 where
  pub long : length buffer ≡ length buffer₀
  pub near : (part : Part) → part_get cursors part + 17 * length ahead ≤ part_get start part + 17 * length text
  pub ends : cursors_behind (accepted_lines ahead) cursors ≡ cursors_behind (accepted_lines (lines_in form text)) start
  pub same : put_lines (accepted_lines ahead) cursors buffer ≡ put_lines (accepted_lines (lines_in form text)) start buffer₀

pub putting_none : {form : ℕ} {text buffer₀ : List ℕ} {start : PerPart ℕ} {ahead : List (Result TextLine Refusal)} → ahead ≡ lines_in form text → Putting form text buffer₀ start buffer₀ start ahead
putting_none {form} {text} e = rw e (record { long = refl; near = λ part. omega (arith, lines_few form text); ends = refl; same = refl })

-- no line stands there
none_ahead : (ls : List (Result TextLine Refusal)) → ((here : List ℕ) → ¬ (from_first ls ≡ Ok (Some here))) → accepted_lines ls ≡ []
unfolding accepted_lines
none_ahead [] m = refl
none_ahead (Err r ∷ ls) m = refl
none_ahead (Ok l ∷ ls) m = absurd (m l.text refl)

module _ {form : ℕ} {text buffer₀ : List ℕ} {start : PerPart ℕ} {buffer : List ℕ} {cursors : PerPart ℕ} where
  pub putting_near : {ahead : List (Result TextLine Refusal)} → Putting form text buffer₀ start buffer cursors ahead → Near 600000 start → length text ≤ text_limit → Near 2000000 cursors
  putting_near p n h part = omega (arith, n part, p.near part)

  -- nothing is left to put: the cursors behind it, how far they went, and the buffer
  pub putting_all : {ahead : List (Result TextLine Refusal)} → Putting form text buffer₀ start buffer cursors ahead → length text ≤ text_limit → ((here : List ℕ) → ¬ (from_first ahead ≡ Ok (Some here)))
      → (cursors ≡ cursors_behind (accepted_lines (lines_in form text)) start) × Further start cursors × (buffer ≡ put_lines (accepted_lines (lines_in form text)) start buffer₀)
  unfolding put_lines cursors_behind
  putting_all {ahead} p h m = let e = none_ahead ahead m in (rw e at p.ends, λ part. omega (arith, p.near part), rw e at p.same)

  -- an accepted line: how long it is, and what is left after it
  pub putting_take : {before after : Lines} {here : List ℕ} → Putting form text buffer₀ start buffer cursors (lines_ahead before) → Advanced before after here → {l : PolicyLine} → l ≡ after.line
      → (length (line_words l) ≤ 17) × ((buffer' : List ℕ) (cursors' : PerPart ℕ) → cursors' ≡ cursors_after (line_part l) cursors (length (line_words l))
      → buffer' ≡ put_words buffer (part_get cursors (line_part l)) (line_words l) → Putting form text buffer₀ start buffer' cursors' (lines_ahead after))
  unfolding put_lines cursors_behind accepted_lines
  putting_take p w same = grind (arith, line_limit_is, accepted_valid, put_length, after_near)

-- ---- the whole image

pub lines_behind : (ls ms : List PolicyLine) (p : PerPart ℕ) (buffer : List ℕ) → put_lines (ls ++ ms) p buffer ≡ put_lines ms (cursors_behind ls p) (put_lines ls p buffer)
unfolding put_lines cursors_behind
lines_behind [] ms p buffer = refl
lines_behind (l ∷ ls) ms p buffer = lines_behind ls ms (cursors_after (line_part l) p (length (line_words l))) (put_words buffer (part_get p (line_part l)) (line_words l))
