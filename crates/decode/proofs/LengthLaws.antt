-- The length of a line as the code finds it: the first word's skip, the ending word, the heads, and the comparisons behind them.
use Rattle.std.proofs.Common.{ℕ, zero, suc, ◌⊎◌, ◌+◌, ◌-◌, ◌≤◌, ◌<◌, true, false, cond, ◌&&◌, List, [], ◌∷◌, map, ◌≡◌, refl, sym, ap, ◌∙◌, add-zero, arith, length, take, drop, get_or, count_ones, length-drop, length-take, drop-drop, add-one, get_or-drop, get_or-take, take-take, take-suc, ltb, leb, eqb}
use Rattle.std.proofs.lemmas.Bool.Decides.{leb_tells}
use Rattle.std.proofs.lemmas.List.{map-append}
use Rattle.std.proofs.lemmas.Grind.{fold-append}
use Rattle.policy.specs.Set.{insert}
use Rattle.word.proofs.ChunkLaws.{words_in_length, words_dropped}
use Rattle.word.specs.Chunk.{words_in}
use Rattle.word.specs.Word.{word_limit, Below, between}
use Rattle.operation.specs.Fields.{first_of, skip_of}
use Rattle.decode.proofs.OnesLaws.{ones_tell}
use Rattle.decode.proofs.ScanLaws.{sized_constant, sized_reading, sized_none, sized, fill_step, fill_end}
use Rattle.decode.proofs.ScanLines.{scan_line_is}
use Rattle.decode.specs.Decode.{line_at, line_length}
use Rattle.decode.specs.Steps.Decoding.{said_in, decode, keep_if}
use Rattle.decode.specs.Steps.Scan.{is_ending, head_sound, count_heads, head_numbers, numbers_of, comparison_length, IsBehind, comparisons_fill, scan_line}
use Rattle.policy.specs.declared.line.Part.{Part}

pub word_here : (words : List ℕ) (i : ℕ) → get_or (drop i words) 0 0 ≡ get_or words i 0
word_here words i = get_or-drop i words 0 0 ∙ ap (λ (k : ℕ). get_or words k 0) (add-zero i)

-- ---- the first n words decide

abbrev Agree : ℕ → List ℕ → List ℕ → Type 0
Agree n xs ys = (j : ℕ) → j < n → get_or xs j 0 ≡ get_or ys j 0

agree_drop : (n k : ℕ) (xs ys : List ℕ) → Agree n xs ys → Agree (n - k) (drop k xs) (drop k ys)
agree_drop n k xs ys h j l = rw (get_or-drop k xs j 0, get_or-drop k ys j 0) (h (k + j) (omega arith))

head_count_agree : (part : Part) (n : ℕ) (xs ys : List ℕ) → Agree n xs ys → count_heads part n xs ≡ count_heads part n ys
unfolding count_heads
head_count_agree part zero xs ys h = refl
head_count_agree part (suc n) xs ys h =
    rw (h 0 (omega arith), head_count_agree part n (drop 1 xs) (drop 1 ys) (λ j l. agree_drop (suc n) 1 xs ys h j (omega arith)))

fill_agree : (room n : ℕ) (xs ys : List ℕ) → Agree n xs ys → comparisons_fill room n xs ≡ comparisons_fill room n ys
unfolding comparisons_fill
fill_agree zero n xs ys h = refl
fill_agree (suc room) zero xs ys h = refl
fill_agree (suc room) (suc n) xs ys h = grind (arith, agree_drop, fill_agree room)

pub head_count_limit : (part : Part) (n : ℕ) (xs : List ℕ) → count_heads part n xs ≤ n
unfolding count_heads
head_count_limit part zero xs = omega arith
head_count_limit part (suc n) xs = grind (arith, head_count_limit part n (drop 1 xs))

-- ---- heads, one after the other

-- so many are counted of n words before the rest
pub record Heading (part : Part) (ws : List ℕ) (n numbers i : ℕ) : Type 0 where
  pub counts : count_heads part n ws ≡ i + count_heads part (n - i) (drop i ws)
  pub gathers : numbers ≡ numbers_of (head_numbers i ws)

pub head_counted : (part : Part) (ws : List ℕ) (n i : ℕ) → i < n → count_heads part (n - i) (drop i ws) ≡ cond (head_sound part (get_or ws i 0) (n - i)) (suc (count_heads part (n - (i + 1)) (drop (i + 1) ws))) 0
unfolding count_heads
head_counted part ws n i h =
    let l : n - i ≡ suc (n - (i + 1)) = omega arith in
    rw (l, word_here ws i, drop-drop 1 i ws, add-one i)

pub heads_over : (part : Part) (ws : List ℕ) (n i : ℕ) → n ≤ i → count_heads part (n - i) (drop i ws) ≡ 0
unfolding count_heads
heads_over part ws n i h = let z : n - i ≡ 0 = omega arith in rw z

pub number_gathered : (ws : List ℕ) (i : ℕ) → i < length ws → numbers_of (head_numbers (i + 1) ws) ≡ insert (numbers_of (head_numbers i ws)) (first_of (get_or ws i 0))
number_gathered ws i h = rw (add-one i, take-suc ws i 0 h, map-append first_of (take i ws) (get_or ws i 0 ∷ []), fold-append insert 0 (map first_of (take i ws)) (first_of (get_or ws i 0) ∷ []))

-- ---- comparisons, one after the other

pub fill_done : (room n : ℕ) (ws : List ℕ) → n ≡ 0 → comparisons_fill room n ws ≡ true
fill_done room n ws z = rw z (fill_end room ws)

pub fill_full : (room n : ℕ) (ws : List ℕ) → room ≡ 0 → comparisons_fill room n ws ≡ eqb n 0
unfolding comparisons_fill
fill_full room n ws z = rw z

pub fill_bad : (room n : ℕ) (ws : List ℕ) → 0 < room → 0 < n → comparison_length (get_or ws 0 0) n ≡ 0 → comparisons_fill room n ws ≡ false
unfolding comparisons_fill
fill_bad room n ws r l z = grind arith

pub fill_more : (room n : ℕ) (ws behind : List ℕ) → 0 < room → n ≡ length ws → IsBehind ws behind → (length behind ≤ n) × (comparisons_fill room n ws ≡ comparisons_fill (room - 1) (length behind) behind)
fill_more zero n ws behind r e b = absurd (omega arith)
fill_more (suc room) n [] behind r e b = let l = b.inside in let s = b.some in absurd (omega arith)
fill_more (suc room) n (w ∷ ws) behind r e b =
    let k : ℕ = comparison_length w (suc (length ws)) in
    let one : suc room - 1 ≡ room = omega arith in
    let size : suc (length ws) ≡ k + (suc (length ws) - k) = let i = b.inside in omega arith in
    rw (e, one, b.behind_it, length-drop k (w ∷ ws)) (omega arith, fill_step (suc (length ws)) room k (suc (length ws) - k) w ws refl b.some size)

-- ---- the words behind a comparison

pub behind_by : (chunks behind : List (List ℕ)) → 0 < comparison_length (get_or (words_in chunks) 0 0) (length chunks) → comparison_length (get_or (words_in chunks) 0 0) (length chunks) ≤ length chunks
    → behind ≡ drop (comparison_length (get_or (words_in chunks) 0 0) (length chunks)) chunks → IsBehind (words_in chunks) (words_in behind)
behind_by chunks behind p h e = let d = words_dropped (comparison_length (get_or (words_in chunks) 0 0) (length chunks)) chunks in record { some = rw words_in_length p; inside = rw words_in_length h; behind_it = rw (words_in_length, e) d }

pub comparison_lengths : (w left : ℕ) → w < word_limit → (comparison_length w left ≡ 0) ⊎ ((comparison_length w left ≡ 1) ⊎ ((comparison_length w left ≡ 2) × (1 < left)))
comparison_lengths w left h = grind (arith, sized, sized_constant, sized_reading, sized_none)

-- ---- the line

pub length_none : (form : ℕ) (part : Part) (ws : List ℕ) → length ws ≡ 0 → line_length (line_at form part ws) ≡ 0
unfolding line_length line_at keep_if decode said_in
length_none form part [] h = refl
length_none form part (x ∷ xs) h = absurd (omega arith)

-- what is asked of a line of so many words and one, by its words before the last
abbrev pub length_by : ℕ → Part → List ℕ → ℕ → ℕ
length_by form part ws size =
    let line : List ℕ = between 0 size ws in
    let heads : ℕ = count_heads part size line in
    cond (ltb size (length ws) && is_ending form part (get_or ws size 0) && ltb 0 heads && leb heads 8 && eqb (count_ones (numbers_of (head_numbers heads line))) heads && comparisons_fill 4 (size - heads) (drop heads line)) (size + 1) 0

length_fits : (form : ℕ) (part : Part) (ws : List ℕ) (size : ℕ) → size ≡ skip_of (get_or ws 0 0) → size < length ws → scan_line form part ws ≡ length_by form part ws size
unfolding scan_line between
length_fits form part ws size e l =
    let agree : Agree size (take size ws) ws = λ j l. get_or-take size ws j 0 l in
    let heads : ℕ = count_heads part size ws in
    let fit : heads ≤ size = head_count_limit part size ws in
    let n : length (take heads ws) ≡ heads = omega (arith, length-take heads ws) in
    rw (← e, head_count_agree part size (take size ws) ws agree, take-take heads size ws fit, rw n at (ones_tell (take heads ws)), fill_agree 4 (size - heads) (drop heads (take size ws)) (drop heads ws) (agree_drop size heads (take size ws) ws agree))

length_scanned : (form : ℕ) (part : Part) (ws : List ℕ) (size : ℕ) → size ≡ skip_of (get_or ws 0 0) → ((ltb size (length ws) ≡ true) × (size < length ws)) ⊎ ((ltb size (length ws) ≡ false) × (length ws < suc size)) → scan_line form part ws ≡ length_by form part ws size
unfolding scan_line
length_scanned form part ws size e h = grind (arith, length_fits)

pub length_is : (form : ℕ) (part : Part) (ws : List ℕ) → Below word_limit ws → line_length (line_at form part ws) ≡ length_by form part ws (skip_of (get_or ws 0 0))
length_is form part ws b = sym (scan_line_is form part ws b) ∙ length_scanned form part ws _ refl (leb_tells _ _)
