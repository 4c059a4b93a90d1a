-- The line that is read from the words of a line is that line.
use Rattle.std.proofs.Common.{ℕ, zero, suc, ◌+◌, ◌-◌, ◌≤◌, ◌<◌, true, List, [], ◌∷◌, ◌++◌, map, append-nil, ◌≡◌, refl, sym, ap, arith, lt-ltb, ltb-true, length, take, drop, length-append, add-one, take_at, drop-drop, drop-cons, drop_of_length-le, fold, get_or}
use Rattle.std.proofs.lemmas.List.Folds.{list_all-append}
use Rattle.std.proofs.lemmas.Bool.{and_parts}
use Rattle.std.proofs.Math.Seq.{append_snoc}
use Rattle.policy.specs.Limits.{valid}
use Rattle.policy.specs.Line.{PolicyLine, heads_of, comparisons_of, ending_of, ending_part, line_part}
use Rattle.std.specs.List.{list_all}
use Rattle.policy.specs.declared.comparison.Comparison.{Comparison}
use Rattle.policy.specs.declared.line.Ending.{Ending}
use Rattle.policy.specs.declared.line.Part.{Part}
use Rattle.policy.specs.declared.line.Test.{Test}
use Rattle.line_value.proofs.LineLaws.{line_again, heads_fit}
use Rattle.line_value.specs.Value.{fits, line_of}
use Rattle.operation.proofs.PartsLaws.{test_skip}
use Rattle.operation.proofs.SaidLaws.{ending_said as said_ending}
use Rattle.operation.specs.Parts.{ending_word}
use Rattle.layout.proofs.LayoutLaws.{part_length, condition_size_limit}
use Rattle.policy.proofs.ValidLaws.{ValidParts, valid_out, test_in_range}
use Rattle.word.specs.Word.{between}
use Rattle.operation.specs.Fields.{skip_of}
use Rattle.layout.specs.Layout.{part_words, line_words}
use Rattle.decode.specs.Steps.Scan.{ending_said, last_ending, no_parts, with_part, line_from}
use Rattle.decode.specs.Steps.Decoding.{said_in}
use Rattle.decode.specs.declared.Parts.{Parts}
use Rattle.decode.proofs.PartLaws.{said_in_by, front, last_word}
use Rattle.operation.specs.declared.said.LinePart.{LinePart}
use Rattle.operation.specs.Operation.{operation_from}
use Rattle.operation.specs.Said.{says_by, says, constants_of}
use Rattle.decode.proofs.LengthLaws.{word_here}

-- ---- the parts before the ending

module _ (part : Part) where
  with_head : (hs : List Test) (cs : List Comparison) (t : Test) → fits part t ≡ true → length hs < 8 → with_part part (record { heads = hs; comparisons = cs }) (LinePart.Head t) ≡ record { heads = hs ++ t ∷ []; comparisons = cs }
  unfolding with_part
  with_head hs cs t f h = rw (f, lt-ltb (length hs) 8 h) refl

  with_comparison : (hs : List Test) (cs : List Comparison) (c : Comparison) → length cs < 4 → with_part part (record { heads = hs; comparisons = cs }) (LinePart.Comparison c) ≡ record { heads = hs; comparisons = cs ++ c ∷ [] }
  unfolding with_part
  with_comparison hs cs c h = rw (lt-ltb (length cs) 4 h) refl

  read_comparisons : (hs : List Test) (cs cs₀ : List Comparison) → length cs₀ + length cs ≤ 4 → fold (with_part part) (record { heads = hs; comparisons = cs₀ }) (map LinePart.Comparison cs) ≡ record { heads = hs; comparisons = cs₀ ++ cs }
  read_comparisons hs [] cs₀ l = rw append-nil
  read_comparisons hs (c ∷ cs) cs₀ l = grind (arith, with_comparison, length-append, append_snoc, read_comparisons hs cs (cs₀ ++ c ∷ []))

  read_parts : (cs : List Comparison) → length cs ≤ 4 → (ts hs : List Test) → list_all (fits part) ts ≡ true → length hs + length ts ≤ 8
      → fold (with_part part) (record { heads = hs; comparisons = [] }) (map LinePart.Head ts ++ map LinePart.Comparison cs) ≡ record { heads = hs ++ ts; comparisons = cs }
  read_parts cs few [] hs f l = rw append-nil (read_comparisons hs cs [] (omega (arith, few)))
  read_parts cs few (x ∷ xs) hs f l = grind (arith, and_parts, with_head, length-append, append_snoc, read_parts cs few xs (hs ++ x ∷ []))

-- ---- the words of a line

-- the words of a valid line say it
pub line_from_is : (l : PolicyLine) → valid l ≡ true → line_from (line_words l) ≡ l
unfolding line_words ending_said said_in
line_from_is l v =
    let h = valid_out l v in
    let f = front (heads_of l) (comparisons_of l) (ending_of l) h in
    let n : length (line_words l) - 1 ≡ length f.words = omega (arith, ap length f.whole, length-append f.words (ending_word (ending_of l) ∷ [])) in
    let last : get_or (line_words l) (length (line_words l) - 1) 0 ≡ ending_word (ending_of l) =
    rw append-nil at (last_word (heads_of l) (comparisons_of l) (ending_of l) h [] (length (line_words l) - 1) (omega (arith, ap length f.whole, length-append f.words (ending_word (ending_of l) ∷ [])))) in
    let front_is : take (length (line_words l) - 1) (line_words l) ≡ f.words = rw (n, f.whole) (take_at f.words (ending_word (ending_of l) ∷ []) (length f.words) refl) in
    let said : said_in 0 f.words ≡ map LinePart.Head (heads_of l) ++ map LinePart.Comparison (comparisons_of l) = rw (append-nil f.words, append-nil (map LinePart.Comparison (comparisons_of l))) at (f.tells []) in
    rw (last, said_ending (ending_of l) 0 h.ending, front_is, said, read_parts (line_part l) (comparisons_of l) h.few_comparisons (heads_of l) [] (heads_fit l) (omega (arith, h.few_tests))) (line_again l)

-- no words say nothing
pub line_from_none : (ws : List ℕ) → length ws ≡ 0 → line_of [] [] Ending.Never ≡ line_from ws
unfolding ending_said says says_by operation_from said_in
line_from_none [] e = refl
line_from_none (w ∷ ws) e = absurd (omega arith)

-- ---- one turn of the code

-- what is left to read at a word
pub record Remains (part : Part) (ws : List ℕ) (parts : Parts) (at : ℕ) : Type 0 where
  pub same : fold (with_part part) parts (said_in 0 (drop at ws)) ≡ fold (with_part part) no_parts (said_in 0 ws)
  pub fit : list_all (fits part) parts.heads ≡ true

past_constants : (k : ℕ) (ws : List ℕ) → said_in k ws ≡ said_in 0 (drop k ws)
unfolding said_in
past_constants zero ws = refl
past_constants (suc k) [] = refl
past_constants (suc k) (w ∷ ws) = past_constants k ws

module _ (part : Part) where
  part_fits : (parts : Parts) (p : LinePart) → list_all (fits part) parts.heads ≡ true → list_all (fits part) (with_part part parts p).heads ≡ true
  unfolding with_part
  part_fits parts p h = grind (arith, list_all-append)

  module _ (ws : List ℕ) where
    -- a part and its constants are read
    pub remains_past : (parts : Parts) (at : ℕ) → Remains part ws parts at → at < length ws → (p : LinePart) (parts' : Parts) (next : ℕ) → p ≡ says (get_or ws at 0) (get_or ws (at + 1) 0) → parts' ≡ with_part part parts p → next ≡ at + 1 + constants_of p
        → Remains part ws parts' next
    remains_past parts at h l p parts' next e q n =
        let here : drop at ws ≡ get_or ws at 0 ∷ drop (at + 1) ws = rw (add-one at) (drop-cons ws at 0 l) in
        let said : said_in 0 (drop at ws) ≡ p ∷ said_in 0 (drop next ws) =
        rw (here, said_in_by (get_or ws at 0) (drop (at + 1) ws) p (rw (word_here ws (at + 1)) (sym e)), past_constants (constants_of p) (drop (at + 1) ws), drop-drop (constants_of p) (at + 1) ws, n) in
        record { same = rw q (rw said at h.same); fit = rw q (part_fits parts p h.fit) }

    pub remains_all : (parts : Parts) (at : ℕ) → Remains part ws parts at → length ws ≤ at → parts ≡ fold (with_part part) no_parts (said_in 0 ws)
    unfolding said_in
    remains_all parts at h l = rw (drop_of_length-le ws l) at h.same

-- all words are read
pub line_done : (ws words : List ℕ) (n : ℕ) (part : Part) (parts : Parts) (at : ℕ) (e : Ending) → n ≡ length ws - 1 → e ≡ last_ending ws → part ≡ ending_part e → words ≡ between 0 n ws
    → Remains part words parts at → length words ≤ at → line_of parts.heads parts.comparisons e ≡ line_from ws
unfolding between
line_done ws words n part parts at e k i j f h l =
    rw (← i, ← j, ← k, ← f, ← remains_all part words parts at h l)

-- ---- where a line ends

skip_first : (ts : List Test) (cs : List Comparison) (e : Ending) (rest : List ℕ) → ValidParts ts cs e → skip_of (get_or (part_words ts cs e ++ rest) 0 0) + 1 ≡ length (part_words ts cs e)
unfolding part_words
skip_first [] cs e rest v = absurd (omega (arith, v.some))
skip_first (t ∷ ts) cs e rest v = grind (arith, part_length, condition_size_limit, test_skip, ltb-true, and_parts, test_in_range)

-- the first skip of a valid line tells where it ends
pub first_skip : (l : PolicyLine) (rest : List ℕ) → valid l ≡ true → skip_of (get_or (line_words l ++ rest) 0 0) + 1 ≡ length (line_words l)
unfolding line_words
first_skip l rest v = skip_first (heads_of l) (comparisons_of l) (ending_of l) rest (valid_out l v)
