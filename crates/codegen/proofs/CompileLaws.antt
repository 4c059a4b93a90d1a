-- Putting word 0, the lines and the check words into a buffer with room for them leaves the image of the text's policy in it.
use Rattle.std.proofs.Common.{Result, Ok, Err, ℕ, ◌+◌, ◌*◌, ◌/◌, ◌≤◌, ◌<◌, List, [], ◌∷◌, ◌++◌, map, ◌≡◌, refl, sym, ap, ◌∙◌, zero-add, arith, le-leb, length, take, drop, length-append, take_at}
use Rattle.std.proofs.lemmas.Bool.{lt-leb}
use Rattle.policy.specs.Line.{PolicyLine, rule, constraint, ending_of}
use Rattle.policy.specs.Policy.{Policy}
use Rattle.policy.specs.Fault.{refusal}
use Rattle.policy.specs.declared.fault.Fault.{Fault}
use Rattle.policy.specs.declared.fault.Refusal.{Refusal}
use Rattle.exactness.proofs.Exact.{content_below, image_length}
use Rattle.word.proofs.WordLaws.{words_append, bytes_length}
use Rattle.word.proofs.WriteLaws.{put_in, put_length, put_append, put_none, put_swap}
use Rattle.word.specs.Steps.Write.{put_bytes, put_words}
use Rattle.word.specs.Word.{words_of}
use Rattle.layout.proofs.CheckLaws.{checks_length}
use Rattle.image.specs.Held.{rules_in, constraints_in}
use Rattle.layout.specs.Layout.{lines_words, rule_part_words, constraint_part_words, header_word, content_words, check_count, check_words, image_words, image_of}
use Rattle.acceptance.proofs.Texts.{site_empty}
use Rattle.rule_text.specs.declared.LineCounts.{LineCounts}
use Rattle.policy.specs.declared.line.PerPart.{PerPart}
use Rattle.codegen.proofs.AcceptedLaws.{AcceptedTexts}
use Rattle.codegen.specs.Compile.{in_form, output_of, compiled, compiled_texts}
use Rattle.codegen.specs.Steps.Put.{word_count, lines_of_both, put_lines, put_content, put_image}

-- ---- the lines, one after another, are the two parts

abbrev rule_part : List PolicyLine → List ℕ
rule_part ls = lines_words (map rule (rules_in ls))

abbrev constraint_part : List PolicyLine → List ℕ
constraint_part ls = lines_words (map constraint (constraints_in ls))

lines_put : (ls : List PolicyLine) (i j : ℕ) (buffer : List ℕ) → i + length (rule_part ls) ≤ j → j + length (constraint_part ls) ≤ length buffer / 4
    → put_lines ls (record { rules = i; constraints = j }) buffer ≡ put_words (put_words buffer i (rule_part ls)) j (constraint_part ls)
unfolding put_lines rules_in constraints_in lines_words ending_of
lines_put [] i j buffer h k = sym (put_none (put_words buffer i []) j ∙ put_none buffer i)
lines_put (rule r ∷ ls) i j buffer h k = grind (arith, length-append, put_length, put_append, lines_put ls)
lines_put (constraint c ∷ ls) i j buffer h k = grind (arith, length-append, put_length, put_swap, put_append, lines_put ls i)

three_put : (buffer : List ℕ) (h : ℕ) (r c : List ℕ) → 1 + length r + length c ≤ length buffer / 4
    → put_words (put_words (put_words buffer 0 (h ∷ [])) 1 r) (1 + length r) c ≡ put_words buffer 0 (h ∷ r ++ c)
three_put buffer h r c room =
    let n : 1 + length r ≡ 0 + length (h ∷ r) = omega arith in
    rw (put_append buffer 0 (h ∷ []) r (omega arith), n) (put_append buffer 0 (h ∷ r) c (omega arith))

-- ---- the image of two accepted texts

module _ {form : ℕ} {maker site : List ℕ} {counts : PerPart LineCounts} (t : AcceptedTexts form maker site counts) (buffer : List ℕ) where
  abbrev p : Policy
  p = t.policy

  abbrev P : ℕ
  P = length (rule_part_words p)

  abbrev N : ℕ
  N = length (constraint_part_words p)

  abbrev image : List ℕ
  image = image_of form p

  pub image_bytes : length image ≡ (1 + P + N + check_count form) * 4
  unfolding image_of
  image_bytes = omega (arith, bytes_length (image_words form p), image_length form t.known p t.acceptable)

  content_length : length (content_words form p) ≡ 1 + P + N
  unfolding content_words
  content_length = omega (arith, length-append (rule_part_words p) (constraint_part_words p))

  module _ (room : length image ≤ length buffer) where
    words_room : 1 + P + N + check_count form ≤ length buffer / 4
    words_room = omega (arith, image_bytes)

    content_put : put_content form (lines_of_both form maker site) P N buffer ≡ put_words buffer 0 (content_words form p)
    unfolding put_content content_words header_word rule_part_words constraint_part_words
    content_put = grind (arith, words_room, lines_put, put_length, three_put)

    content_read : take (1 + P + N) (words_of (put_words buffer 0 (content_words form p))) ≡ content_words form p
    unfolding put_bytes
    content_read = grind (arith, words_room, put_in, content_length, words_append, content_below, take_at)

    pub image_written : put_image form (lines_of_both form maker site) P N buffer ≡ image ++ drop (length image) buffer
    unfolding put_image image_words image_of put_bytes
    image_written =
        let w : List ℕ = content_words form p in
        let m = words_room in
        let behind : 1 + P + N ≡ 0 + length w = omega (arith, content_length) in
        rw (content_put, content_read, behind, put_append buffer 0 w (check_words form w) (omega (arith, content_length, checks_length form w)), put_in buffer 0 (image_words form p) (omega (arith, image_length form t.known p t.acceptable))) (ap (λ (n : ℕ). image ++ drop n buffer) (zero-add (length image)))

  -- ---- what the compiler answers

  module _ {rules constraints : ℕ} (r : rules ≡ word_count counts.rules) (k : constraints ≡ word_count counts.constraints) where
    abbrev size : ℕ
    size = (1 + rules + constraints + check_count form) * 4

    size_is : size ≡ length image
    size_is = omega (arith, image_bytes, t.rule_count_is, t.constraint_count_is)

    pub compiled_short : {x : Refusal} → x ≡ refusal Fault.BufferTooSmall 0 → length buffer < size → (Err x ≡ (compiled_texts form maker site buffer).answer) × (buffer ≡ (compiled_texts form maker site buffer).buffer)
    unfolding compiled_texts output_of
    compiled_short e h = rw (e, t.known, t.read, lt-leb (length image) (length buffer) (omega (arith, size_is))) (refl, refl)

    pub compiled_image : size ≤ length buffer → {after : List ℕ} → after ≡ put_image form (lines_of_both form maker site) rules constraints buffer
        → (Ok size ≡ (compiled_texts form maker site buffer).answer) × (after ≡ (compiled_texts form maker site buffer).buffer)
    unfolding compiled_texts output_of
    compiled_image h e = grind (arith, size_is, image_written, le-leb)

-- ---- a single text

-- with an empty site's text all is as for the maker's alone
pub compiled_alone : (form : ℕ) (text buffer : List ℕ) → compiled_texts form text [] buffer ≡ compiled form text buffer
unfolding compiled_texts compiled
compiled_alone form text buffer = ap (λ (s : Result Policy Refusal). output_of form (in_form form s) buffer) (site_empty form text)
