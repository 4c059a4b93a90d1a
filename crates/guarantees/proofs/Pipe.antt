-- `compiler | decompiler | compiler`: what the compiler prints for an accepted text, the decompiler turns into a text for which the
-- compiler prints the same again.
use Rattle.std.specs.Result.{result_ok}
use Rattle.policy.proofs.ResultLaws.{known}
use Rattle.std.proofs.Common.{ℕ, ◌%◌, List, [], ◌∷◌, map, ◌≡◌, refl, sym, ap, ◌∙◌, arith, length, Some, Result}
use mathlib.Core.List.{flatten}
use Rattle.policy.specs.declared.fault.Refusal.{Refusal}
use Rattle.policy.specs.Limits.{Acceptable}
use Rattle.policy.specs.Policy.{Policy}
use Rattle.acceptance.proofs.Accepted.{accepted_acceptable, texts_acceptable}
use Rattle.rule_text.specs.Text.{read_text, read_texts, policy_of, policy_of_texts}
use Rattle.word.proofs.WordLaws.{bytes_length}
use Rattle.word.specs.Word.{words_of}
use Rattle.layout.specs.Layout.{image_words, image_of}
use Rattle.exactness.proofs.Exact.{image_taken, image_holds}
use Rattle.codegen.proofs.AcceptedLaws.{newest_known}
use Rattle.codegen.specs.Compile.{newest_form}
use Rattle.printer.proofs.Printing.{text_policy}
use Rattle.printer.specs.Printed.{text_of}
use Rattle.report.specs.Report.{word_line, refusal_line, texts_refusal_line}
use Rattle.session.specs.Listed.{word_lines, listing_of, listed, listed_texts}
use Rattle.dump.proofs.PrintedLaws.{restored_image}
use Rattle.dump.specs.Dump.{loaded_answer, image_answer, restored}
use Rattle.guarantees.proofs.RoundTrip.{image_bytes}

policy_acceptable : (text : List ℕ) (p : Policy) → policy_of newest_form text ≡ Some p → Acceptable newest_form p
policy_acceptable text p e = accepted_acceptable newest_form text p (known (read_text newest_form text) p e)

texts_policy_acceptable : (maker site : List ℕ) (p : Policy) → policy_of_texts newest_form maker site ≡ Some p → Acceptable newest_form p
texts_policy_acceptable maker site p e = texts_acceptable newest_form maker site p (known (read_texts newest_form maker site) p e)

word_lines_is : (ws : List ℕ) → word_lines ws ≡ flatten (map word_line ws)
unfolding word_lines flatten
word_lines_is [] = refl
word_lines_is (w ∷ ws) = cc (word_lines_is ws)

whole_words : (p : Policy) → length (image_of newest_form p) % 4 ≡ 0
unfolding image_of
whole_words p = omega (arith, bytes_length (image_words newest_form p))

listing_is : (refused : Refusal → List ℕ) (s : Result Policy Refusal) (p : Policy) → result_ok s ≡ Some p → listing_of refused s ≡ word_lines (words_of (image_of newest_form p))
unfolding listing_of
listing_is refused s p e = rw (known s p e)

listed_image : (text : List ℕ) (p : Policy) → policy_of newest_form text ≡ Some p → listed text ≡ word_lines (words_of (image_of newest_form p))
unfolding listed
listed_image text p = listing_is refusal_line (read_text newest_form text) p

texts_listed_image : (maker site : List ℕ) (p : Policy) → policy_of_texts newest_form maker site ≡ Some p → listed_texts maker site ≡ word_lines (words_of (image_of newest_form p))
unfolding listed_texts
texts_listed_image maker site p = listing_is texts_refusal_line (read_texts newest_form maker site) p

restored_words : (p : Policy) → Acceptable newest_form p → restored (word_lines (words_of (image_of newest_form p))) ≡ text_of p
unfolding image_answer loaded_answer
restored_words p ok = grind (arith, word_lines_is, restored_image, image_bytes, whole_words, image_taken, newest_known, image_holds)

-- for every accepted text the decompiler prints, of what the compiler prints, the text of the text's policy
pub listing_restored : (text : List ℕ) (p : Policy) → policy_of newest_form text ≡ Some p → restored (listed text) ≡ text_of p
listing_restored text p e = ap restored (listed_image text p e) ∙ restored_words p (policy_acceptable text p e)

-- the same of what the compiler prints for two texts
pub texts_listing_restored : (maker site : List ℕ) (p : Policy) → policy_of_texts newest_form maker site ≡ Some p → restored (listed_texts maker site) ≡ text_of p
texts_listing_restored maker site p e = ap restored (texts_listed_image maker site p e) ∙ restored_words p (texts_policy_acceptable maker site p e)

printed_listed : (p : Policy) → Acceptable newest_form p → listed (text_of p) ≡ word_lines (words_of (image_of newest_form p))
printed_listed p ok = listed_image (text_of p) p (text_policy newest_form p ok)

-- and the compiler prints the same for it
pub listed_again : (text : List ℕ) (p : Policy) → policy_of newest_form text ≡ Some p → listed (restored (listed text)) ≡ listed text
listed_again text p e = ap listed (listing_restored text p e) ∙ printed_listed p (policy_acceptable text p e) ∙ sym (listed_image text p e)

pub texts_listed_again : (maker site : List ℕ) (p : Policy) → policy_of_texts newest_form maker site ≡ Some p → listed (restored (listed_texts maker site)) ≡ listed_texts maker site
texts_listed_again maker site p e =
    ap listed (texts_listing_restored maker site p e) ∙ printed_listed p (texts_policy_acceptable maker site p e) ∙ sym (texts_listed_image maker site p e)
