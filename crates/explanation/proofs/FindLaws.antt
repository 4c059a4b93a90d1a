-- The first line of a text that is sought: what one turn of the search does, and what is shown of a line.
use Rattle.std.proofs.Common.{Result, Option, Some, None, Ok, Err, ℕ, zero, suc, ◌+◌, ◌-◌, ◌<◌, ◌≤◌, Bool, true, false, cond, List, [], ◌∷◌, ◌≡◌, refl, sym, ap, ◌∙◌, arith, length, take}
use Rattle.policy.specs.Limits.{valid}
use Rattle.policy.specs.Line.{PolicyLine}
use Rattle.policy.specs.declared.fault.Fault.{Fault}
use Rattle.policy.specs.declared.fault.Refusal.{Refusal}
use Rattle.exactness.proofs.PartLines.{line_limit_is}
use Rattle.acceptance.proofs.Accepted.{accepted_valid}
use Rattle.lexer.proofs.LeadingLaws.{leading_length}
use Rattle.lexer.specs.Byte.{is_space}
use Rattle.lexer.specs.Lines.{pieces, lines_of, take_leading, in_line, first_line}
use Rattle.lexer.specs.Steps.Scan.{without_spaces}
use Rattle.syntax.proofs.AnswerLaws.{lines_here, next_shorter}
use Rattle.syntax.proofs.LinesLaws.{left, left_here}
use Rattle.syntax.proofs.WalkLaws.{Advanced}
use Rattle.syntax.specs.Answer.{next_line}
use Rattle.syntax.specs.Judge.{line_answer}
use Rattle.codegen.specs.Compile.{newest_form}
use Rattle.syntax.specs.Lines.{TextLine, before_later, lines_from, lines_in}
use Rattle.syntax.specs.Walk.{lines_ahead, from_first}
use Rattle.syntax.specs.declared.text.Lines.{Lines}
use Rattle.image.proofs.WholeLaws.{own_line_whole}
use Rattle.explanation.proofs.TellLaws.{line_below}
use Rattle.explanation.proofs.TrimLaws.{trimmed_front}
use Rattle.explanation.specs.Part.{trim_start, trim_end, trim, Stretch, shown_at, or_later, first_from}
use Rattle.explanation.specs.Steps.Sought.{sought_by, first_ahead, Writable}
use Rattle.explanation.specs.declared.find.Sought.{Sought}
use Rattle.policy.specs.declared.epoch.Epoch.{Epoch}

-- ---- what is shown of a line

-- the spaces in front of a text are those of its first line
spaces_in_line : (s : List ℕ) → take_leading is_space (first_line s) ≡ take_leading is_space s
spaces_in_line [] = refl
spaces_in_line (b ∷ s) = grind (arith, spaces_in_line s)

-- its first line behind them is the line without them
line_behind_spaces : (s : List ℕ) → first_line (without_spaces s) ≡ trim_start (first_line s)
unfolding trim_start
line_behind_spaces [] = refl
line_behind_spaces (b ∷ s) = grind (arith, line_behind_spaces s)

pub behind_shorter : (text : List ℕ) → length (without_spaces text) ≤ length text
behind_shorter text = omega (arith, leading_length is_space text)

pub shown_is : (at : ℕ) (text : List ℕ)
    → shown_at at (first_line text) ≡ record { start = at + (length text - length (without_spaces text)); bytes = take (length (trim_end (first_line (without_spaces text)))) (without_spaces text) }
unfolding shown_at trim
shown_is at text =
    let k : length text - length (without_spaces text) ≡ length (take_leading is_space (first_line text)) = omega (arith, leading_length is_space text, ap length (spaces_in_line text)) in
    rw (k, trimmed_front (without_spaces text), line_behind_spaces text) refl

-- ---- the lines of a text, one after another

-- the text from a line on begins with it, and is no longer than the whole
pub record Inside (size : ℕ) (l : TextLine) : Type 0 where
  pub short : length l.text ≤ size
  pub bytes : first_line l.text ≡ l.bytes

abbrev pub AllInside : ℕ → List (Result TextLine Refusal) → Type 0
AllInside size [] = Unit {0}
AllInside size (Ok l ∷ ls) = Inside size l × AllInside size ls
AllInside size (Err r ∷ ls) = Unit {0}

-- the lines behind the first, wherever a line behind a text without a line end would start
lines_behind : (test : PolicyLine → Bool) (size : ℕ) (rest : List ℕ) → length rest ≤ size
    → first_from test (size - length rest + length (first_line rest) + 1) (lines_of (next_line rest)) ≡ first_from test (size - length (next_line rest)) (lines_of (next_line rest))
unfolding first_from lines_of pieces
lines_behind test size rest h = let all = leading_length in_line rest in grind arith

module _ (test : PolicyLine → Bool) (size : ℕ) where
  record Ahead (rest : List ℕ) (ls : List (Result TextLine Refusal)) : Type 0 where
    same : first_ahead test size ls ≡ first_from test (size - length rest) (lines_of rest)
    inside : AllInside size ls

  -- of one line, and those behind it
  ahead_of : (rest : List ℕ) → 0 < length rest → length rest ≤ size → (n : ℕ) (x : Result (Option PolicyLine) Fault) → line_answer newest_form (first_line rest) ≡ x
      → Ahead (next_line rest) (left newest_form (n + 1) (next_line rest)) → Ahead rest (before_later n rest (first_line rest) x (left newest_form (n + 1) (next_line rest)))
  unfolding first_ahead first_from or_later before_later
  ahead_of rest h s n (Ok None) e later = record { same = rw (lines_here rest h, e) (later.same ∙ sym (lines_behind test size rest s)); inside = later.inside }
  ahead_of rest h s n (Err f) e later = record { same = rw (lines_here rest h, e) refl; inside = tt }
  ahead_of rest h s n (Ok (Some l)) e later = record {
    same = rw (lines_here rest h, e, later.same) (ap (cond (test l) (Some (shown_at (size - length rest) (first_line rest)))) (sym (lines_behind test size rest s)));
    inside = (record { short = s; bytes = refl }, later.inside);
  }

  ahead : (k n : ℕ) (rest : List ℕ) → length rest ≤ k → length rest ≤ size → Ahead rest (left newest_form n rest)
  unfolding first_ahead first_from or_later lines_from before_later lines_of pieces
  ahead k n [] i s = record { same = refl; inside = tt }
  ahead zero n (b ∷ t) i s = absurd (omega arith)
  ahead (suc k) n (b ∷ t) i s =
      let h : 0 < length (b ∷ t) = omega arith in
      let l = next_shorter (b ∷ t) h in
      rw (left_here newest_form n (b ∷ t) h) (ahead_of (b ∷ t) h s n (line_answer newest_form (first_line (b ∷ t))) refl (ahead k (n + 1) (next_line (b ∷ t)) (omega (arith, l)) (omega (arith, l))))

-- ---- one turn of the search

-- no line stands there
none_ahead : (test : PolicyLine → Bool) (size : ℕ) (ls : List (Result TextLine Refusal)) → ((here : List ℕ) → ¬ (from_first ls ≡ Ok (Some here))) → None ≡ first_ahead test size ls
unfolding first_ahead
none_ahead test size [] m = refl
none_ahead test size (Err r ∷ ls) m = refl
none_ahead test size (Ok l ∷ ls) m = absurd (m l.text refl)

module _ (text : List ℕ) (q : Sought) (epoch : Epoch) where
  -- nothing has been found before the lines ahead
  pub record Seeking (lines : List (Result TextLine Refusal)) : Type 0 where
    pub inside : AllInside (length text) lines
    pub same : first_ahead (sought_by q epoch) (length text) lines ≡ first_from (sought_by q epoch) 0 (lines_of text)

  -- an accepted line: its words can be run, and what is left where it is sought or not
  pub record Judging (after : Lines) (here : List ℕ) (l : PolicyLine) : Type 0 where
    pub writable : Writable l
    pub short : length here ≤ length text
    pub hit : true ≡ sought_by q epoch l → (x : Stretch) → x ≡ shown_at (length text - length here) (first_line here) → Some x ≡ first_from (sought_by q epoch) 0 (lines_of text)
    pub miss : false ≡ sought_by q epoch l → Seeking (lines_ahead after)

module _ {text : List ℕ} {q : Sought} {epoch : Epoch} where
  pub seeking_none : {lines : List (Result TextLine Refusal)} → lines ≡ lines_in newest_form text → Seeking text q epoch lines
  seeking_none e =
      let a = ahead (sought_by q epoch) (length text) (length text) 1 text (omega arith) (omega arith) in
      let z : length text - length text ≡ 0 = omega arith in
      rw e (record { inside = a.inside; same = a.same ∙ ap (λ (n : ℕ). first_from (sought_by q epoch) n (lines_of text)) z })

  pub seeking_all : {lines : List (Result TextLine Refusal)} → Seeking text q epoch lines → ((here : List ℕ) → ¬ (from_first lines ≡ Ok (Some here))) → None ≡ first_from (sought_by q epoch) 0 (lines_of text)
  seeking_all s m = none_ahead (sought_by q epoch) (length text) _ m ∙ s.same

  pub seeking_judge : {before after : Lines} {here : List ℕ} → Seeking text q epoch (lines_ahead before) → Advanced before after here → {l : PolicyLine} → l ≡ after.line → Judging text q epoch after here l
  unfolding first_ahead
  seeking_judge s w {l} held =
      let k : PolicyLine = w.line.line in
      let v : valid k ≡ true = accepted_valid _ w.line.bytes k w.accepted in
      let value : l ≡ k = held ∙ w.at.value in
      let inside : Inside (length text) w.line × AllInside (length text) w.later = rw w.first at s.inside in
      let same : first_ahead (sought_by q epoch) (length text) (Ok w.line ∷ w.later) ≡ first_from (sought_by q epoch) 0 (lines_of text) = rw w.first at s.same in
      record {
        writable = rw value (record { few = line_limit_is k v; small = line_below k v; whole = own_line_whole k v });
        short = rw w.from inside.0.short;
        hit = λ t x u. rw (u, w.from, inside.0.bytes) (rw (← value, ← t) at same);
        miss = λ t. rw w.ahead (record { inside = inside.1; same = rw (← value, ← t) at same });
      }
