-- Laws of the compiler's listing.
use Rattle.std.proofs.Common.{◌≡◌, ℕ, ◌*◌, ◌≤◌, List, [], ◌∷◌, length, refl, arith, Result, Ok, Err}
use Rattle.policy.specs.Limits.{Acceptable}
use Rattle.policy.specs.Policy.{Policy}
use Rattle.policy.specs.declared.fault.Refusal.{Refusal}
use Rattle.word.proofs.WordLaws.{words_length}
use Rattle.acceptance.proofs.Accepted.{accepted_acceptable, texts_acceptable}
use Rattle.rule_text.specs.Text.{read_text, read_texts}
use Rattle.codegen.proofs.AcceptedLaws.{newest_known}
use Rattle.codegen.specs.Compile.{newest_form}
use Rattle.output.specs.Number.{hex_digits}
use Rattle.report.specs.Report.{word_line, refusal_line, texts_refusal_line}
use Rattle.session.specs.Listed.{word_lines, listing_of, listed, listed_texts}
use Rattle.codegen.proofs.RoomLaws.{image_small}
use Rattle.acceptance.proofs.Locations.{location_small, locations_small}
use Rattle.report.proofs.LengthLaws.{refusal_short, texts_refusal_short}
use Rattle.session.specs.Steps.Sizes.{listing_size}

-- ---- the length of the listing

lines_length : (ws : List ℕ) → length (word_lines ws) ≡ 9 * length ws
unfolding word_lines word_line hex_digits
lines_length [] = refl
lines_length (w ∷ ws) = omega (arith, lines_length ws)

-- ---- how long a listing is

module _ (refused : Refusal → List ℕ) (s : Result Policy Refusal) (keeps : (p : Policy) → s ≡ Ok p → Acceptable newest_form p) where
  listing_short : ((x : Refusal) → s ≡ Err x → length (refused x) ≤ 64) → length (listing_of refused s) ≤ listing_size
  unfolding listing_of
  listing_short short = grind (arith, short, lines_length, words_length, keeps, image_small newest_form newest_known)

pub listed_short : (text : List ℕ) → length (listed text) ≤ listing_size
unfolding listed
listed_short text = listing_short refusal_line (read_text newest_form text) (accepted_acceptable newest_form text) (λ x e. refusal_short x (omega (arith, location_small newest_form text x e)))

pub texts_listed_short : (maker site : List ℕ) → length (listed_texts maker site) ≤ listing_size
unfolding listed_texts
texts_listed_short maker site = listing_short texts_refusal_line (read_texts newest_form maker site) (texts_acceptable newest_form maker site) (λ x e. texts_refusal_short x (omega (arith, locations_small newest_form maker site x e)))
