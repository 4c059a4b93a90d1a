-- What is shown of a line: it stands in its text, without line end and trimmed of spaces at both ends.
use Rattle.std.proofs.Common.{ℕ, suc, ◌+◌, ◌≤◌, Bool, true, false, cond, List, [], ◌∷◌, ◌++◌, Contains, append_assoc, ⊎_elim, ◌≡◌, refl, sym, ap, ◌∙◌, arith, eqb-true, eq-eqb, length, take, drop, length-append, length-drop, take-append-drop, drop-drop, length-take-le, Some, None, Ok, eqb}
use Rattle.std.proofs.lemmas.Bool.{eqb-false}
use Rattle.std.proofs.Math.Seq.{drop-append_seam, drop-append-add}
use Rattle.std.proofs.lemmas.List.Elements.{Contains-append_left, Contains-append_right, Contains-append_cases}
use Rattle.policy.proofs.ListLaws.{contains_cases, contains_first, contains_later, contains_one, all_out}
use Rattle.policy.specs.Line.{PolicyLine}
use Rattle.lexer.proofs.LeadingLaws.{leading_joined, leading_pass, leading_ends}
use Rattle.lexer.specs.Byte.{is_space}
use Rattle.lexer.specs.Lines.{prepend, pieces, lines_of, non_empty, tokens_of, take_leading}
use Rattle.syntax.specs.Judge.{tokens_answer, line_answer}
use Rattle.codegen.specs.Compile.{newest_form}
use Rattle.explanation.specs.Part.{trim_start, add_to_trimmed, trim_end, trim}
use Rattle.guarantees.specs.Explanations.{ended_length, Spaces, Trimmed, Straight}

-- ---- trimming

-- t is s without the spaces at its end
pub record Ended (s t : List ℕ) : Type 0 where
  pub behind : List ℕ
  pub whole : s ≡ t ++ behind
  pub spaces : Spaces behind
  pub last : (rest : List ℕ) (b : ℕ) → t ≡ rest ++ b ∷ [] → ¬ (b ≡ 32)

no_last : (rest : List ℕ) (b : ℕ) → [] ≡ rest ++ b ∷ [] → ⊥
no_last [] b e = cc
no_last (c ∷ rest) b e = cc

one_last : (c : ℕ) (rest : List ℕ) (b : ℕ) → c ∷ [] ≡ rest ++ b ∷ [] → c ≡ b
one_last c [] b e = cc
one_last c (d ∷ rest) b e = absurd (no_last rest b cc)

more_last : (c d : ℕ) (t rest : List ℕ) (b : ℕ) → ((rest : List ℕ) (b : ℕ) → d ∷ t ≡ rest ++ b ∷ [] → ¬ (b ≡ 32)) → c ∷ d ∷ t ≡ rest ++ b ∷ [] → ¬ (b ≡ 32)
more_last c d t [] b h e = cc
more_last c d t (x ∷ rest) b h e = h rest b cc

kept : (c : ℕ) (s t : List ℕ) → Ended s t → Ended (c ∷ s) (add_to_trimmed c t)
unfolding add_to_trimmed
kept c s [] r = go (is_space c) refl
  where
    go : (x : Bool) → is_space c ≡ x → Ended (c ∷ s) (cond x [] (c ∷ []))
    go true h =
        record {
          behind = c ∷ s;
          whole = refl;
          spaces = λ b m. ⊎_elim (λ q. sym q ∙ eqb-true c 32 h) (λ k. r.spaces b (rw r.whole at k)) (contains_cases c s b m);
          last = λ rest b e. absurd (no_last rest b e);
        }
    go false h = record { behind = r.behind; whole = cc r.whole; spaces = r.spaces; last = λ rest b e k. eqb-false c 32 h (one_last c rest b e ∙ k) }
kept c s (d ∷ t) r = record { behind = r.behind; whole = cc r.whole; spaces = r.spaces; last = λ rest b. more_last c d t rest b r.last }

pub ended : (s : List ℕ) → Ended s (trim_end s)
unfolding trim_end
ended [] = record { behind = []; whole = refl; spaces = λ b m. absurd (omega (arith, m.1)); last = λ rest b e. absurd (no_last rest b e) }
ended (c ∷ s) = kept c s (trim_end s) (ended s)

-- a byte of which nothing is taken in front is no space
pub stops : (b : ℕ) (s : List ℕ) → [] ≡ take_leading is_space (b ∷ s) → is_space b ≡ false
stops b s e = grind arith

unfoldable pub trimming : (line : List ℕ) → Trimmed line (trim line)
unfolding trim trim_start
trimming line =
    let r = ended (trim_start line) in
    record {
      ahead = take_leading is_space line;
      behind = r.behind;
      whole = sym (leading_joined is_space line) ∙ ap (λ (t : List ℕ). take_leading is_space line ++ t) r.whole;
      spaces_ahead = λ b m. eqb-true b 32 (all_out is_space (take_leading is_space line) (leading_pass is_space line) b m);
      spaces_behind = r.spaces;
      unspaced =
          record {
            first = λ b rest e. eqb-false b 32 (stops b (rest ++ r.behind) (sym (leading_ends is_space line) ∙ ap (take_leading is_space) (r.whole ∙ ap (λ (t : List ℕ). t ++ r.behind) e)));
            last = r.last;
          };
    }

-- a line that is not skipped has more than spaces
spaces_skipped : (s : List ℕ) → Spaces s → tokens_of s ≡ []
unfolding tokens_of pieces non_empty
spaces_skipped [] h = refl
spaces_skipped (b ∷ s) h = rw (eq-eqb b 32 (h b (contains_first b s))) (spaces_skipped s (λ c m. h c (contains_later b s c m)))

pub not_empty : (line part : List ℕ) (l : PolicyLine) → line_answer newest_form line ≡ Ok (Some l) → Trimmed line part → part ≡ [] → ⊥
unfolding line_answer tokens_answer
not_empty line part l e t z =
    let same : line ≡ t.ahead ++ t.behind = t.whole ∙ ap (λ (p : List ℕ). t.ahead ++ (p ++ t.behind)) z in
    let none : tokens_of line ≡ [] = spaces_skipped line (λ b m. ⊎_elim (t.spaces_ahead b) (t.spaces_behind b) (Contains-append_cases t.ahead t.behind b (rw same at m))) in
    let k : line_answer newest_form line ≡ Ok None = ap (tokens_answer newest_form) none in
    cc

-- ---- where a line stands

-- the first line, and the lines behind it
record Cut (s line : List ℕ) (lines : List (List ℕ)) : Type 0 where
  rest : List ℕ
  whole : s ≡ line ++ rest
  later : lines ≡ pieces 10 (drop 1 rest)
  no_end : Contains line 10 → ⊥

no_pieces : (s : List ℕ) → pieces 10 s ≡ [] → s ≡ []
unfolding pieces prepend
no_pieces [] e = refl
no_pieces (b ∷ s) e = grind arith

abbrev Cutting : List ℕ → Type 0
Cutting s = (line : List ℕ) (lines : List (List ℕ)) → pieces 10 s ≡ line ∷ lines → Cut s line lines

cut : (s : List ℕ) → Cutting s
unfolding pieces prepend
cut [] line lines e = cc
cut (b ∷ s) line lines e = go (eqb b 10) refl (pieces 10 s) refl (cut s) e
  where
    go : (x : Bool) → eqb b 10 ≡ x → (ls : List (List ℕ)) → pieces 10 s ≡ ls → Cutting s → cond x ([] ∷ ls) (prepend b ls) ≡ line ∷ lines → Cut (b ∷ s) line lines
    go true q ls k c h = record { rest = b ∷ s; whole = cc; later = cc; no_end = λ m. grind (arith, m.1) }
    go false q [] k c h =
        let i : b ∷ [] ≡ line = cc in
        record { rest = []; whole = cc (no_pieces s k); later = cc; no_end = λ m. eqb-false b 10 q (contains_one b 10 (rw (← i) at m)) }
    go false q (p ∷ ps) k c h =
        let i : b ∷ p ≡ line = cc in
        let r = c p ps k in
        record { rest = r.rest; whole = cc (i, r.whole); later = cc r.later; no_end = λ m. ⊎_elim (eqb-false b 10 q) r.no_end (contains_cases b p 10 (rw (← i) at m)) }

-- the line that starts at a position
pub record LineAt (text : List ℕ) (at : ℕ) (line : List ℕ) : Type 0 where
  pub rest : List ℕ
  pub inside : at ≤ length text
  pub whole : drop at text ≡ line ++ rest
  pub no_end : Contains line 10 → ⊥

pub line_at : (before : List (List ℕ)) (text line : List ℕ) (behind : List (List ℕ)) → lines_of text ≡ before ++ line ∷ behind → LineAt text (ended_length before) line
unfolding lines_of ended_length pieces
line_at [] text line behind e = let c = cut text line behind e in record { rest = c.rest; inside = omega arith; whole = c.whole; no_end = c.no_end }
line_at (l ∷ before) text line behind e = go (cut text l (before ++ line ∷ behind) e) (λ t. line_at before t line behind)
  where
    go : Cut text l (before ++ line ∷ behind) → ((t : List ℕ) → lines_of t ≡ before ++ line ∷ behind → LineAt t (ended_length before) line) → LineAt text (length l + 1 + ended_length before) line
    go c later = behind_it c.rest refl
      where
        behind_it : (r : List ℕ) → c.rest ≡ r → LineAt text (length l + 1 + ended_length before) line
        behind_it [] k =
            let z : before ++ line ∷ behind ≡ [] = c.later ∙ ap (λ (s : List ℕ). pieces 10 (drop 1 s)) k in
            absurd (omega (arith, ap length z, length-append before (line ∷ behind)))
        behind_it (b ∷ t) k =
            let r = later t (sym (c.later ∙ ap (λ (s : List ℕ). pieces 10 (drop 1 s)) k)) in
            let same : text ≡ l ++ b ∷ t = cc c.whole in
            let n : length l + 1 + ended_length before ≡ length l + suc (ended_length before) = omega arith in
            record {
              rest = r.rest;
              inside = omega (arith, r.inside, ap length same, length-append l (b ∷ t));
              whole = rw (n, same) (drop-append-add l (b ∷ t) (suc (ended_length before)) ∙ r.whole);
              no_end = r.no_end;
            }

-- ---- what is shown of it

module _ (text : List ℕ) (at : ℕ) (line part : List ℕ) (l : LineAt text at line) (t : Trimmed line part) where
  abbrev start : ℕ
  start = at + length t.ahead

  from_start : drop start text ≡ part ++ (t.behind ++ l.rest)
  from_start =
      sym (drop-drop (length t.ahead) at text) ∙ ap (drop (length t.ahead)) (l.whole ∙ ap (λ (s : List ℕ). s ++ l.rest) t.whole ∙ append_assoc t.ahead (part ++ t.behind) l.rest)
      ∙ drop-append_seam t.ahead (part ++ t.behind ++ l.rest) ∙ append_assoc part t.behind l.rest

  start_inside : start ≤ length text
  start_inside =
      omega (arith, l.inside, length-drop at text, ap length l.whole, length-append line l.rest, ap length t.whole, length-append t.ahead (part ++ t.behind))

  pub part_straight : (part ≡ [] → ⊥) → Straight text (record { start = start; bytes = part })
  part_straight some =
      record {
        before = take start text;
        behind = t.behind ++ l.rest;
        whole = sym (take-append-drop start text) ∙ ap (λ (s : List ℕ). take start text ++ s) from_start;
        start = length-take-le start text start_inside;
        some = some;
        unspaced = t.unspaced;
        no_line_end = λ m. l.no_end (rw t.whole (Contains-append_right t.ahead (part ++ t.behind) 10 (Contains-append_left part t.behind 10 m)));
      }
