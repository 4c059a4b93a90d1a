-- What a scan takes is a line: the scan finds the lines that `line_at` finds.
use Rattle.std.proofs.Common.{ℕ, zero, suc, ◌+◌, ◌-◌, ◌≤◌, ◌<◌, Bool, true, false, not, cond, ◌&&◌, List, [], ◌∷◌, ◌++◌, map, append_assoc, ◌⊎◌, inl, inr, ◌≡◌, refl, sym, ap, ◌∙◌, arith, lt-ltb, ne_eqb, length, drop, length-append, Option, Some, None, ltb, leb, get_or}
use Rattle.std.proofs.lemmas.Bool.{and_from}
use Rattle.std.proofs.lemmas.Bool.Decides.{nat_tests}
use Rattle.policy.specs.Limits.{repeats, test_number, comparison_in_range}
use Rattle.policy.specs.Line.{PolicyLine, comparisons_of, ending_of}
use Rattle.std.specs.List.{list_all}
use Rattle.policy.specs.declared.comparison.Comparison.{Comparison}
use Rattle.operation.proofs.PartsLaws.{Compares, constant_in_range, constant_again, reading_in_range, reading_again}
use Rattle.decode.proofs.DecodeLaws.{line_out, line_none}
use Rattle.decode.proofs.ScanLaws.{HeadFacts, head_out, Sized, sized_constant, sized_reading, sized_none, sized, fill_step, fill_none, line_found, head_of, Ends, ending_is, kind_in}
use Rattle.policy.proofs.ValidLaws.{ValidParts, valid_in, test_in_range}
use Rattle.operation.specs.Parts.{comparison_words, constant_comparison, reading_comparison}
use Rattle.word.specs.Word.{word_limit, Below}
use Rattle.operation.specs.Fields.{second_of, skip_of}
use Rattle.operation.specs.declared.operation.Operation.{Operation}
use Rattle.layout.specs.Layout.{condition_words, part_words, line_words}
use Rattle.line_value.proofs.LineLaws.{heads_back}
use Rattle.line_value.specs.Value.{fits, line_of}
use Rattle.policy.specs.declared.line.Ending.{Ending}
use Rattle.policy.specs.declared.line.Test.{Test}
use Rattle.decode.specs.Decode.{line_at, line_length}
use Rattle.decode.specs.Steps.Scan.{is_ending, head_sound, count_heads, head_numbers, comparison_length, comparisons_fill, scan_line}
use Rattle.policy.specs.declared.line.Part.{Part}

-- ---- comparisons and the ending word behind the heads: m words and one

record Behind (form : ℕ) (part : Part) (room m : ℕ) (ts : List Test) (ws : List ℕ) : Type 0 where
  comparisons : List Comparison
  last : ℕ
  end : Ends form part last
  rest : List ℕ
  words : ws ≡ part_words ts comparisons end.ending ++ rest
  size : length (part_words ts comparisons end.ending) ≡ suc m
  sound : list_all comparison_in_range comparisons ≡ true
  few : length comparisons ≤ room

behind_end : (form : ℕ) (part : Part) (room w : ℕ) (ws : List ℕ) → is_ending form part w ≡ true → Behind form part room 0 [] (w ∷ ws)
unfolding part_words condition_words
behind_end form part room w ws h =
    let e = ending_is form part w h in
    record { comparisons = []; last = w; end = e; rest = ws; words = cc e.word; size = refl; sound = refl; few = omega arith }

behind_more : (form : ℕ) (part : Part) (room m n : ℕ) (c : Comparison) (ws rest : List ℕ) → Behind form part room m [] rest → comparison_in_range c ≡ true → comparison_words c (suc m) ++ rest ≡ ws
    → length (comparison_words c (suc m)) + suc m ≡ suc n → Behind form part (suc room) n [] ws
unfolding part_words condition_words
behind_more form part room m n c ws rest t i e size =
    record {
      comparisons = c ∷ t.comparisons;
      last = t.last;
      end = t.end;
      rest = t.rest;
      words = rw (t.size, append_assoc, ← t.words) (sym e);
      size = rw (t.size, length-append, t.size) size;
      sound = and_from _ _ i t.sound;
      few = let f = t.few in omega arith;
    }

-- what comparisons that fill m words say
abbrev Filled : (form : ℕ) → Part → ℕ → ℕ → List ℕ → Type 0
Filled form part room m ws = m < length ws → Below word_limit ws → is_ending form part (get_or ws m 0) ≡ true → comparisons_fill room m ws ≡ true → Behind form part room m [] ws

module _ (form : ℕ) (part : Part) where
  filled_constant : (room m w k : ℕ) (ws : List ℕ) → Compares Operation.AgainstConstant w k → second_of w ≡ 0 → 0 < k → m ≡ k + 1 → comparison_length w m ≡ 2 → ((n : ℕ) (xs : List ℕ) → Filled form part room n xs)
      → Filled form part (suc room) m (w ∷ ws)
  filled_constant room m w zero ws h z p q s later l b n e = absurd (omega arith)
  filled_constant room m w (suc k) [] h z p q s later l b n e = absurd (omega arith)
  filled_constant room m w (suc k) (v ∷ ws) h z p q s later l b n e =
      let size : m ≡ suc (suc k) = omega arith in
      let again = constant_again w v (suc k) h z (b 1) in
      behind_more form part room k m (constant_comparison w v) (w ∷ v ∷ ws) ws
      (later k ws (omega arith) (λ j. b (suc (suc j))) (rw size at n) (rw (fill_step m room 2 k w (v ∷ ws) s (omega arith) (omega arith)) at e))
      (constant_in_range w v (suc k) h (b 1)) (rw again) (rw again (omega arith))

  filled_reading : (room m w : ℕ) (ws : List ℕ) → Compares Operation.AgainstReading w (suc m) → second_of w < 16 → comparison_length w (suc m) ≡ 1 → ((n : ℕ) (xs : List ℕ) → Filled form part room n xs)
      → Filled form part (suc room) (suc m) (w ∷ ws)
  filled_reading room m w ws h z s later l b n e =
      let again = reading_again w (suc m) h in
      behind_more form part room m (suc m) (reading_comparison w) (w ∷ ws) ws
      (later m ws (omega arith) (λ j. b (suc j)) n (rw (fill_step (suc m) room 1 m w ws s (omega arith) (omega arith)) at e))
      (reading_in_range w (suc m) h z) (rw again) (rw again (omega arith))

  filled : (room m : ℕ) (ws : List ℕ) → Filled form part room m ws
  unfolding comparisons_fill
  filled room m [] l b n e = absurd (omega arith)
  filled room zero (w ∷ ws) l b n e = behind_end form part room w ws n
  filled zero (suc m) (w ∷ ws) l b n e = absurd (cc (ne_eqb (suc m) 0 (λ q. omega arith)))
  filled (suc room) (suc m) (w ∷ ws) l b n e = go (sized w (suc m) (b 0)) (filled room)
    where
      go : Sized w (suc m) → ((n : ℕ) (xs : List ℕ) → Filled form part room n xs) → Behind form part (suc room) (suc m) [] (w ∷ ws)
      go (sized_constant h z p s) later = filled_constant room (suc m) w (suc m - 1) ws h z (omega arith) (omega arith) s later l b n e
      go (sized_reading h z s) later = filled_reading room m w ws h z s later l b n e
      go (sized_none s) later = absurd (cc (fill_none (suc m) room w ws (omega arith) s))

-- ---- the line from its h heads on

record Line (form : ℕ) (part : Part) (h m : ℕ) (ws : List ℕ) : Type 0 where
  tests : List Test
  behind : Behind form part 4 m tests ws
  count : length tests ≡ h
  in_range : list_all test_in_range tests ≡ true
  fit : list_all (fits part) tests ≡ true
  numbers : head_numbers h ws ≡ map test_number tests

line_head : (form : ℕ) (part : Part) (h m w : ℕ) (ws : List ℕ) → w < word_limit → HeadFacts part w (suc m) → Line form part h m ws → Line form part (suc h) (suc m) (w ∷ ws)
unfolding part_words
line_head form part h m w ws l f t =
    let r = head_of part w (suc m) l f in
    let b = t.behind in
    let first : test_number r.test < 64 = omega (arith, r.number) in
    record {
      tests = r.test ∷ t.tests;
      behind = record { comparisons = b.comparisons; last = b.last; end = b.end; rest = b.rest; words = rw (b.size, r.word) (cc b.words); size = ap suc b.size; sound = b.sound; few = b.few };
      count = ap suc t.count;
      in_range = and_from _ _ (lt-ltb (test_number r.test) 64 first) t.in_range;
      fit = and_from _ _ r.fit t.fit;
      numbers = cc (r.number, t.numbers);
    }

count_more : (part : Part) (w m h : ℕ) (ws : List ℕ) → count_heads part (suc m) (w ∷ ws) ≡ suc h → (head_sound part w (suc m) ≡ true) × (count_heads part m ws ≡ h)
unfolding count_heads
count_more part w m h ws q = grind arith

scanned : (form : ℕ) (part : Part) (h m : ℕ) (ws : List ℕ) → count_heads part m ws ≡ h → m < length ws → Below word_limit ws → is_ending form part (get_or ws m 0) ≡ true → comparisons_fill 4 (m - h) (drop h ws) ≡ true → Line form part h m ws
unfolding count_heads
scanned form part zero m ws q l b n e =
    let whole : m - 0 ≡ m = omega arith in
    record { tests = []; behind = filled form part 4 m ws l b n (rw whole at e); count = refl; in_range = refl; fit = refl; numbers = refl }
scanned form part (suc h) zero ws q l b n e = absurd (omega arith)
scanned form part (suc h) (suc m) [] q l b n e = absurd (omega arith)
scanned form part (suc h) (suc m) (w ∷ ws) q l b n e =
    let c = count_more part w m h ws q in
    let fewer : suc m - suc h ≡ m - h = omega arith in
    line_head form part h m w ws (b 0) (head_out part w (suc m) c.0) (scanned form part h m ws c.1 (omega arith) (λ j. b (suc j)) n (rw fewer at e))

-- ---- the scan finds what `line_at` finds

-- what the scan asks, of m words and one with h heads
record Passes (form : ℕ) (part : Part) (h m : ℕ) (ws : List ℕ) : Type 0 where
  within : m < length ws
  ended : is_ending form part (get_or ws m 0) ≡ true
  some : 0 < h
  few : h ≤ 8
  once : repeats (head_numbers h ws) ≡ false
  fills : comparisons_fill 4 (m - h) (drop h ws) ≡ true

passes : (form : ℕ) (part : Part) (h m : ℕ) (ws : List ℕ) (t : Bool)
    → t ≡ (ltb m (length ws) && is_ending form part (get_or ws m 0) && ltb 0 h && leb h 8 && not (repeats (head_numbers h ws)) && comparisons_fill 4 (m - h) (drop h ws)) → (t ≡ false) ⊎ Passes form part h m ws
passes form part h m ws t e = grind (arith, nat_tests)

-- the line that was scanned stands there
line_stands : (form : ℕ) (part : Part) (h m : ℕ) (ws : List ℕ) → count_heads part m ws ≡ h → Below word_limit ws → Passes form part h m ws → line_at form part ws ≡ None → ⊥
unfolding line_words line_of comparisons_of ending_of
line_stands form part h m ws q b p none =
    let x = scanned form part h m ws q p.within b p.ended p.fills in
    let y = x.behind in
    let e : Ending = y.end.ending in
    let k = kind_in form part e x.tests y.comparisons y.end.kind y.end.allowed in
    let parts : ValidParts x.tests y.comparisons e =
    record { some = omega (arith, x.count, p.some); tests = x.in_range; comparisons = y.sound; ending = y.end.sound; few_tests = omega (arith, x.count, p.few); few_comparisons = y.few; distinct = rw x.numbers at p.once } in
    let heads = heads_back x.tests y.comparisons e (rw k.0 x.fit) in
    let comparisons : comparisons_of (line_of x.tests y.comparisons e) ≡ y.comparisons = grind arith in
    let ending : ending_of (line_of x.tests y.comparisons e) ≡ e = grind arith in
    line_none form part ws none (line_of x.tests y.comparisons e) y.rest k.1 (valid_in _ (rw (heads, comparisons, ending) parts)) (rw (heads, comparisons, ending) y.words)

pub scan_line_is : (form : ℕ) (part : Part) (ws : List ℕ) → Below word_limit ws → scan_line form part ws ≡ line_length (line_at form part ws)
unfolding line_length scan_line
scan_line_is form part ws b = go (line_at form part ws) refl
  where
    unscanned : line_at form part ws ≡ None → (t : Bool) (k : ℕ) → (t ≡ false) ⊎ Passes form part (count_heads part (skip_of (get_or ws 0 0)) ws) (skip_of (get_or ws 0 0)) ws → cond t k 0 ≡ 0
    unscanned q t k (inl f) = rw f
    unscanned q t k (inr p) = absurd (line_stands form part _ _ ws refl b p q)

    go : (o : Option PolicyLine) → line_at form part ws ≡ o → scan_line form part ws ≡ line_length o
    go None q = unscanned q _ _ (passes form part _ _ ws _ refl)
    go (Some l) q = let h = line_out form part ws l q in ap (scan_line form part) h.words ∙ line_found form part l (drop (length (line_words l)) ws) h.kind h.sound
