-- Laws of reading a text line by line.
use Rattle.std.specs.Result.{result_map_both}
use Rattle.std.proofs.lemmas.List.{map-append}
use Rattle.std.proofs.Common.{ℕ, suc, ◌+◌, ◌<◌, ◌≤◌, false, List, [], ◌∷◌, ◌++◌, ◌≡◌, refl, add-one, arith, length, drop, length-append, Option, Some, None, Result, Ok, Err, ltb}
use Rattle.std.proofs.Math.ListN.{length-map}
use Rattle.policy.specs.Fault.{refusal, within, located, in_text}
use Rattle.policy.specs.Limits.{crowded, rule_limit, line_limit}
use Rattle.policy.specs.Line.{PolicyLine, comparisons_of, ending_of, constant_count, line_part, part_get, part_set}
use Rattle.policy.specs.Result.{result_and_then}
use Rattle.policy.specs.Policy.{Policy}
use Rattle.policy.specs.declared.comparison.Comparison.{Comparison}
use Rattle.policy.specs.declared.fault.Fault.{Fault}
use Rattle.policy.specs.declared.fault.Refusal.{Refusal}
use Rattle.policy.specs.declared.fault.Source.{Source}
use Rattle.policy.specs.declared.line.PerPart.{PerPart}
use Rattle.syntax.proofs.JudgeLaws.{accepted_uncrowded}
use Rattle.syntax.proofs.WalkLaws.{Advanced}
use Rattle.syntax.specs.Walk.{lines_ahead}
use Rattle.syntax.specs.declared.text.Lines.{Lines}
use Rattle.rule_text.specs.Answer.{total, counts_in, counts_of, counted, text_read, texts_read}
use Rattle.rule_text.specs.Steps.Counting.{no_counts, count_lines, count_behind}
use Rattle.rule_text.specs.Steps.Tally.{Within, Small, plus, tally_as, tallied_by}
use Rattle.lexer.specs.Lines.{lines_of}
use Rattle.syntax.specs.Judge.{line_answer}
use Rattle.syntax.specs.Lines.{TextLine, before_later, lines_from, lines_in}
use Rattle.rule_text.specs.Text.{has_room, with_line as line_added, with_any_line, read_line, read_lines, text_limit, read_text_behind, read_text, read_texts}
use Rattle.rule_text.specs.declared.LineCounts.{LineCounts}

abbrev Counts : Type 0
Counts = PerPart LineCounts

-- ---- counting instead of collecting

total_snoc : (count : PolicyLine → ℕ) (ls : List PolicyLine) (l : PolicyLine) → total count (ls ++ l ∷ []) ≡ total count ls + count l
unfolding total
total_snoc count [] l = omega arith
total_snoc count (x ∷ ls) l = rw (total_snoc count ls l) (omega arith)

counts_snoc : (ls : List PolicyLine) (l : PolicyLine) → counts_in (ls ++ l ∷ []) ≡ plus (counts_in ls) l
unfolding counts_in
counts_snoc ls l = grind (arith, length-append, total_snoc)

-- a line counts as it is added: there is room for it or not, and the counts with it are those of the policy with it
room_counts : (p : Policy) (l : PolicyLine) → ltb (part_get (counts_of p) (line_part l)).lines (line_limit (line_part l)) ≡ has_room p l
unfolding counts_of counts_in ending_of
room_counts p l = grind (arith, length-map)

added_counts : (p : Policy) (l : PolicyLine) → part_set (counts_of p) (line_part l) (plus (part_get (counts_of p) (line_part l)) l) ≡ counts_of (line_added p l)
unfolding counts_of ending_of line_added
added_counts p l = grind (arith, map-append, counts_snoc)

more_counts : (p : Policy) (l : PolicyLine) → tallied_by (counts_of p) l ≡ result_map_both counts_of (λ f. f) (with_any_line p (Some l))
unfolding with_any_line tallied_by tally_as
more_counts p l = grind (arith, room_counts, added_counts)

module _ (form n : ℕ) (p : Policy) (text bytes : List ℕ) (ls : List (List ℕ)) (behind : List (Result TextLine Refusal)) (later : (q : Policy) → count_lines (counts_of q) behind ≡ counted (read_lines form (suc n) q ls)) where
  line_counts : (a : Result (Option PolicyLine) Fault) → count_lines (counts_of p) (before_later n text bytes a behind) ≡ counted (result_and_then (λ (q : Policy). read_lines form (suc n) q ls) (located n (result_and_then (with_any_line p) a)))
  unfolding count_lines with_any_line before_later
  line_counts a = grind (arith, more_counts p, later)

lines_counts : (form : ℕ) (ls : List (List ℕ)) (n : ℕ) (text : List ℕ) (p : Policy) → count_lines (counts_of p) (lines_from form n text ls) ≡ counted (read_lines form n p ls)
unfolding count_lines read_lines read_line lines_from
lines_counts form [] n text p = refl
lines_counts form (bytes ∷ ls) n text p = rw (add-one n) (line_counts form n p text bytes ls _ (lines_counts form ls (suc n) (drop (suc (length bytes)) text)) (line_answer form bytes))

-- ---- the counts of an accepted line

few_constants : (cs : List Comparison) → constant_count cs ≤ length cs
unfolding constant_count
few_constants [] = grind arith
few_constants (c ∷ cs) = grind (arith, few_constants cs)

within_more : (c : LineCounts) (l : PolicyLine) → crowded l ≡ false → Within rule_limit c → c.lines < rule_limit → Within rule_limit (plus c l)
unfolding crowded
within_more c l u w e = grind (arith, few_constants (comparisons_of l))

-- the counts stay small
small_line : (c d : Counts) (l : PolicyLine) → crowded l ≡ false → Small c → tally_as (line_part l) c (plus (part_get c (line_part l)) l) ≡ Ok d → Small d
unfolding tally_as
small_line c d l u s e part = grind (arith, within_more (part_get c (line_part l)) l u (s (line_part l)), s part)

-- ---- a turn of reading

module _ (c : Counts) (before after : Lines) (text : List ℕ) (w : Advanced before after text) (v : PolicyLine) (same : v ≡ after.line) where
  pub count_over : (f : Fault) → Err f ≡ tallied_by c v → (n : ℕ) → n ≡ after.number → Err (refusal f n) ≡ count_lines c (lines_ahead before)
  unfolding count_lines
  count_over f h n k = grind arith

  pub count_turn : (d : Counts) → Ok d ≡ tallied_by c v → (count_lines c (lines_ahead before) ≡ count_lines d (lines_ahead after)) × (Small c → Small d)
  unfolding count_lines tallied_by
  count_turn d e = grind (arith, small_line c d w.line.line, accepted_uncrowded)

-- ---- the lines of a text behind others

pub none_small : Small no_counts
none_small part = grind arith

module _ (form : ℕ) (c : Counts) (text : List ℕ) where
  pub behind_long : text_limit < length text → Err (refusal Fault.TooLong 0) ≡ count_behind form c text
  unfolding count_behind
  behind_long h = grind arith

  pub behind_short : length text ≤ text_limit → count_lines c (lines_in form text) ≡ count_behind form c text
  unfolding count_behind
  behind_short h = grind arith

-- the counts behind a policy are those of what is read behind it
behind_counts : (form : ℕ) (p : Policy) (text : List ℕ) → count_behind form (counts_of p) text ≡ counted (read_text_behind form p text)
unfolding count_behind read_text_behind
behind_counts form p text = grind (arith, lines_counts)

-- and a refusal of it is in the same text
source_counts : (form : ℕ) (source : Source) (p : Policy) (text : List ℕ) → in_text source (count_behind form (counts_of p) text) ≡ counted (in_text source (read_text_behind form p text))
source_counts form source p text = grind (arith, behind_counts)

-- as the code says it
pub put_in_text : (source : Source) (r answer : Result Counts Refusal) → ((c : Counts) → r ≡ Ok c → answer ≡ Ok c) → ((x : Refusal) → r ≡ Err x → answer ≡ Err (within source x)) → answer ≡ in_text source r
put_in_text source r answer h k = grind arith

pub text_counts : (form : ℕ) (text : List ℕ) → in_text Source.Maker (count_behind form no_counts text) ≡ text_read form text
unfolding text_read read_text counts_of counts_in total
text_counts form text = grind (arith, source_counts)

-- two texts: the site's behind the maker's
texts_counts : (form : ℕ) (maker site : List ℕ) → result_and_then (λ (c : Counts). in_text Source.Site (count_behind form c site)) (text_read form maker) ≡ texts_read form maker site
unfolding text_read texts_read read_texts
texts_counts form maker site = grind (arith, source_counts)

module _ (form : ℕ) (maker site : List ℕ) where
  pub maker_refused : (x : Refusal) → text_read form maker ≡ Err x → Err x ≡ texts_read form maker site
  maker_refused x e = grind (arith, texts_counts form maker site)

  pub site_counts : (c : Counts) → text_read form maker ≡ Ok c → in_text Source.Site (count_behind form c site) ≡ texts_read form maker site
  site_counts c e = grind (arith, texts_counts form maker site)

-- ---- the counts of a text that is read are no more than its lines may have

line_taken : (c d : Counts) (l : PolicyLine) (n : ℕ) (behind : List (Result TextLine Refusal)) → result_and_then (λ (x : Counts). count_lines x behind) (located n (tallied_by c l)) ≡ Ok d
    → (x : Counts) × (tallied_by c l ≡ Ok x) × (count_lines x behind ≡ Ok d)
line_taken c d l n behind e = grind arith

module _ (c d : Counts) (n : ℕ) (text bytes : List ℕ) (behind : List (Result TextLine Refusal)) (small : Small c) (later : (x : Counts) → Small x → count_lines x behind ≡ Ok d → Small d) where
  line_small : (a : Result (Option PolicyLine) Fault) → ((l : PolicyLine) → a ≡ Ok (Some l) → crowded l ≡ false) → count_lines c (before_later n text bytes a behind) ≡ Ok d → Small d
  unfolding count_lines tallied_by before_later
  line_small (Ok None) h e = later c small e
  line_small (Ok (Some l)) h e = let x = line_taken c d l n behind e in later x.0 (small_line c x.0 l (h l refl) small x.1) x.2
  line_small (Err f) h e = cc

lines_small : (form : ℕ) (ls : List (List ℕ)) (n : ℕ) (text : List ℕ) (c d : Counts) → Small c → count_lines c (lines_from form n text ls) ≡ Ok d → Small d
unfolding count_lines lines_from
lines_small form [] n text c d s e = let q : c ≡ d = cc in rw (← q) s
lines_small form (bytes ∷ ls) n text c d s e =
    line_small c d n text bytes _ s (λ x t. lines_small form ls (n + 1) (drop (suc (length bytes)) text) x d t) (line_answer form bytes) (accepted_uncrowded form bytes) e

lines_read : (form : ℕ) (text : List ℕ) (c : Counts) → text_read form text ≡ Ok c → count_lines no_counts (lines_in form text) ≡ Ok c
unfolding count_behind
lines_read form text c e = grind (arith, text_counts form text)

pub read_small : (form : ℕ) (text : List ℕ) (c : Counts) → text_read form text ≡ Ok c → Small c
read_small form text c e = lines_small form (lines_of text) 1 text no_counts c none_small (lines_read form text c e)
