-- An image in which two neighbours among the words before its check words were exchanged is refused, where it has a weighted word.
use Rattle.std.proofs.Common.{ℕ, zero, suc, ◌+◌, ◌%◌, ◌^◌, ◌≤◌, ◌<◌, true, false, List, [], ◌∷◌, ◌++◌, map, ◌≡◌, refl, sym, ap, ◌∙◌, subst, arith, length, take, length-append, append_assoc, Err, swap, get_or, set}
use Rattle.std.proofs.lemmas.List.Edits.{swap_is, length-swap}
use Rattle.std.proofs.lemmas.Bool.Decides.{nat_tests}
use Rattle.policy.specs.Fault.{refusal}
use Rattle.policy.specs.Limits.{Acceptable}
use Rattle.policy.specs.Line.{PolicyLine, rule, constraint, heads_of, comparisons_of, ending_of}
use Rattle.policy.specs.Policy.{Policy}
use Rattle.policy.specs.declared.comparison.Comparison.{Comparison}
use Rattle.policy.specs.declared.fault.Fault.{Fault}
use Rattle.policy.specs.declared.line.Ending.{Ending}
use Rattle.policy.specs.declared.line.Test.{Test}
use Rattle.word.specs.Word.{word_limit, Bytes, words_of, word_at, Below}
use Rattle.word.proofs.WordLaws.{bytes_below, words_length, words_below, words_of_bytes, bytes_length, set_below}
use Rattle.operation.specs.Fields.{pack}
use Rattle.operation.specs.Parts.{test_operation, test_word, operand_word, comparison_word, comparison_words, effect_operation, ending_word}
use Rattle.layout.specs.Header.{form_of}
use Rattle.layout.specs.Layout.{known_form, weighted_word, condition_words, part_words, line_words, lines_words, check_words, rule_part_words, constraint_part_words, content_words, image_words, image_of}
use Rattle.layout.proofs.CheckLaws.{weighted_is, weighted_is_not}
use Rattle.layout.proofs.SwapLaws.{sum_swapped, behind_swapped, before_swapped, moved_swapped, swap_noticed}
use Rattle.image.specs.Check.{rule_words, constraint_words, form_byte, counts_fit, sums_to_zero, weights_right}
use Rattle.image.specs.Load.{load_words, load}
use Rattle.image.proofs.HeldLaws.{counted}
use Rattle.exactness.proofs.Exact.{image_taken, image_words_is, form_is, rules_are, constraints_are, took, whole_words}
use Rattle.exactness.specs.Exact.{contents_of, exchanged, exchange_fault, Weighed}

-- ---- the first word of a line is no word 0 of a known form

line_word_unknown : (w : ℕ) → 2 ^ 28 ≤ w → w < word_limit → known_form (form_of w) ≡ false
unfolding known_form
line_word_unknown w h l = grind (arith, nat_tests)

test_large : (t : Test) (skip : ℕ) → 2 ^ 28 ≤ test_word t skip
unfolding test_word test_operation pack
test_large t skip = grind arith

comparison_large : (c : Comparison) (skip : ℕ) → 2 ^ 28 ≤ comparison_word c skip
unfolding comparison_word operand_word pack
comparison_large c skip = grind arith

ending_large : (e : Ending) → 2 ^ 28 ≤ ending_word e
unfolding ending_word effect_operation pack
ending_large e = grind arith

part_large : (ts : List Test) (cs : List Comparison) (e : Ending) (rest : List ℕ) → 2 ^ 28 ≤ get_or (part_words ts cs e ++ rest) 0 0
unfolding part_words condition_words comparison_words
part_large [] [] e rest = ending_large e
part_large [] (c ∷ cs) e rest = comparison_large c (length (condition_words cs e))
part_large (t ∷ ts) cs e rest = test_large t (length (part_words ts cs e))

pub lines_large : (ls : List PolicyLine) (rest : List ℕ) → 0 < length (lines_words ls) → 2 ^ 28 ≤ get_or (lines_words ls ++ rest) 0 0
unfolding lines_words line_words
lines_large [] rest h = absurd (omega arith)
lines_large (l ∷ ls) rest h = rw append_assoc (part_large (heads_of l) (comparisons_of l) (ending_of l) (lines_words ls ++ rest))

-- ---- exchanged words

pub exchanged_length : (bytes : List ℕ) (i : ℕ) → length bytes % 4 ≡ 0 → length (exchanged bytes i) ≡ length bytes
exchanged_length bytes i aligned = omega (arith, bytes_length (swap (words_of bytes) i (i + 1)), length-swap (words_of bytes) i (i + 1), words_length bytes)

pub exchanged_words : (bytes : List ℕ) → Bytes bytes → (i : ℕ) → i + 1 < length (words_of bytes) → words_of (exchanged bytes i) ≡ swap (words_of bytes) i (i + 1)
exchanged_words bytes bounded i inside =
    let b = words_below bytes bounded in
    words_of_bytes (swap (words_of bytes) i (i + 1))
    (subst (Below word_limit) (swap_is (words_of bytes) i (i + 1) 0 (omega arith) inside)
    (set_below (set (words_of bytes) i (word_at bytes (i + 1))) (i + 1) (word_at bytes i) (b i) (set_below (words_of bytes) i (word_at bytes (i + 1)) (b (i + 1)) b)))

module _ (bytes : List ℕ) (bounded : Bytes bytes) (ok : Weighed bytes) (i : ℕ) where
  abbrev ws : List ℕ
  ws = words_of bytes

  abbrev n : ℕ
  n = 1 + rule_words (words_of bytes) + constraint_words (words_of bytes)

  module _ (inside : i + 1 < 1 + rule_words (words_of bytes) + constraint_words (words_of bytes)) where
    long : n ≤ length ws
    long = omega (arith, (counted ws ok.checked.count).all)

    load_by_words : load (exchanged bytes i) ≡ load_words (swap ws i (i + 1))
    unfolding load
    load_by_words = rw (exchanged_length bytes i (whole_words (length bytes) ok.checked.size), ok.checked.size, exchanged_words bytes bounded i (omega (arith, long)))

    -- word 0 and another in each other's place
    pub first_exchanged : i ≡ 0 → 2 ^ 28 ≤ word_at bytes 1 → load (exchanged bytes i) ≡ Err (refusal Fault.ImageForm 0)
    unfolding load_words
    first_exchanged first large = grind (arith, moved_swapped, long, load_by_words, line_word_unknown, words_below)

    -- two others
    module _ (behind : 0 < i) (newer : form_byte (words_of bytes) ≡ 1 → ⊥) (differ : word_at bytes i ≡ word_at bytes (i + 1) → ⊥) where
      header : get_or (swap ws i (i + 1)) 0 0 ≡ get_or ws 0 0
      header = before_swapped ws i n inside long 0 behind

      counts : counts_fit (swap ws i (i + 1)) ≡ true
      unfolding counts_fit
      counts = rw (header, length-swap ws i (i + 1)) ok.checked.count

      sums : sums_to_zero (swap ws i (i + 1)) ≡ true
      unfolding sums_to_zero
      sums = rw (sum_swapped ws i (omega (arith, long))) ok.checked.check

      weights : weights_right (swap ws i (i + 1)) ≡ false
      unfolding weights_right
      weights =
          let right : word_at bytes n ≡ weighted_word (take n ws) = weighted_is (form_byte ws) newer n ws ok.weights in
          rw header
          (weighted_is_not (form_byte ws) newer n (swap ws i (i + 1))
          (λ e. differ (swap_noticed ws i n inside long (words_below bytes bounded) (sym e ∙ behind_swapped ws i n inside long n inside ∙ right))))

      pub others_exchanged : load (exchanged bytes i) ≡ Err (refusal Fault.ImageWeightedSum 0)
      unfolding load_words
      others_exchanged = load_by_words ∙ rw (header, ok.checked.form, counts, sums, weights)

lines_join : (ls ms : List PolicyLine) → lines_words (ls ++ ms) ≡ lines_words ls ++ lines_words ms
unfolding lines_words
lines_join [] ms = refl
lines_join (l ∷ ls) ms = rw (lines_join ls ms, append_assoc)

-- an image that was written: in a form with a weighted word, two neighbours that differ
module _ (form : ℕ) (known : known_form form ≡ true) (newer : form ≡ 1 → ⊥) (p : Policy) (ok : Acceptable form p) where
  abbrev held : List ℕ
  held = words_of (image_of form p)

  passes : Weighed (image_of form p)
  passes = (took (image_of form p) (contents_of form p) (image_taken form known p ok)).checked

  bounded : Bytes (image_of form p)
  unfolding image_of
  bounded = bytes_below (image_words form p)

  held_form_is : form_byte held ≡ form
  held_form_is = rw (image_words_is form known p ok) (form_is form known p ok)

  large : 0 < rule_words held + constraint_words held → 2 ^ 28 ≤ word_at (image_of form p) 1
  unfolding image_words content_words rule_part_words constraint_part_words
  large some =
      let all : List PolicyLine = map rule p.rules ++ map constraint p.constraints in
      let parts : lines_words all ≡ rule_part_words p ++ constraint_part_words p = lines_join (map rule p.rules) (map constraint p.constraints) in
      let counts : 0 < length (rule_part_words p) + length (constraint_part_words p) = rw (image_words_is form known p ok, rules_are form known p ok, constraints_are form known p ok) at some in
      let long : 0 < length (lines_words all) = omega (arith, counts, ap length parts, length-append (rule_part_words p) (constraint_part_words p)) in
      rw (image_words_is form known p ok) (rw parts at (lines_large all (check_words form (content_words form p)) long))

  pub written_swapped : (i : ℕ) → i + 1 ≤ rule_words held + constraint_words held → (word_at (image_of form p) i ≡ word_at (image_of form p) (i + 1) → ⊥)
      → load (exchanged (image_of form p) i) ≡ Err (refusal (exchange_fault i) 0)
  written_swapped zero inside differ = first_exchanged (image_of form p) bounded passes 0 (omega arith) refl (large (omega arith))
  written_swapped (suc i) inside differ =
      others_exchanged (image_of form p) bounded passes (suc i) (omega arith) (omega arith) (λ e. newer (sym held_form_is ∙ e)) differ
