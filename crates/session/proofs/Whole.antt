-- What the lines of the whole input print one by one is what the definition prints for it. And what the compiler lists is what its
-- definition says.
use Rattle.std.proofs.Common.{◌≡◌, ℕ, zero, suc, ◌≤◌, List, [], ◌∷◌, ◌++◌, length, take, refl, sym, ap, ap₂, ◌∙◌, append_assoc, append-nil, arith, eqb-true, Option, Some, None, option_map, take-take}
use Rattle.policy.specs.Policy.{Policy}
use Rattle.policy.specs.Set.{no_events}
use Rattle.policy.specs.declared.mode.Mode.{Mode}
use Rattle.acceptance.proofs.Cut.{text_cut, texts_cut}
use Rattle.codegen.specs.Compile.{newest_form}
use Rattle.layout.specs.Layout.{image_of}
use Rattle.lexer.specs.Lines.{pieces, lines_of}
use Rattle.lined.specs.Lines.{ended_behind, open_behind, ended_lines, open_line, cut_to}
use Rattle.lined.proofs.InputLaws.{all_lines, cut_last, whole_lines}
use Rattle.lined.proofs.LineLaws.{cut_again}
use Rattle.output.specs.Buffer.{appended, behind}
use Rattle.report.specs.Report.{refusal_line, texts_refusal_line}
use Rattle.session.specs.Listed.{listing_of, listed, listed_texts}
use Rattle.session.specs.Printed.{text_only, with_epochs, mode_of, split_at_run, ended, text_part, answers_to, printed_for, printed, runs, due}
use Rattle.session.specs.Steps.Session.{following, told_with, told_text, printed_text, given_text}
use Rattle.session.specs.Steps.Sizes.{listing_size, text_held}
use Rattle.output.proofs.RoomLaws.{put_take}
use Rattle.stream.proofs.FrontLaws.{cut_before}
use Rattle.stream.specs.Lines.{whole_part, due_for}
use Rattle.session.proofs.EpochLaws.{cut_epochs}
use Rattle.session.proofs.ListingLaws.{listed_short, texts_listed_short}
use Rattle.session.proofs.RunLaws.{cut_mode}
use Rattle.session.proofs.TextLaws.{printed_same, told_same, told_line, told_run, end_none, end_run}

-- ---- the engine: as much of each line as it is handed tells what it prints

kept_behind : (m : ℕ) (done x y : List ℕ) → take m x ≡ take m y → take m (done ++ x) ≡ take m (done ++ y)
kept_behind zero done x y e = refl
kept_behind (suc m) [] x y e = e
kept_behind (suc m) (b ∷ done) x y e = ap (λ l. b ∷ l) (kept_behind m done x y (sym (take-take m (suc m) x (omega arith)) ∙ ap (take m) e ∙ take-take m (suc m) y (omega arith)))

mode_kept : (line : List ℕ) → mode_of (take text_held line) ≡ mode_of line
mode_kept line = cut_mode text_held line (omega arith)

-- the epochs
epochs_kept : (done : List ℕ) (mode : Mode) (lines : List (List ℕ)) → printed_for done (with_epochs [] mode (cut_to text_held lines)) ≡ printed_for done (with_epochs [] mode lines)
unfolding printed_for answers_to
epochs_kept done mode lines = grind (arith, λ (policy : Policy). cut_epochs mode (image_of newest_form policy) text_held (omega arith) no_events 0 lines)

last_kept : (done last : List ℕ) (o : Option Mode) → mode_of last ≡ o → told_text done [] (Some (take text_held last)) ≡ told_text done [] (Some last)
last_kept done last None e =
    end_none done (take text_held last) (mode_kept last ∙ e) ∙ printed_same _ _ text_only (kept_behind text_held done _ _ (cut_again text_held last)) ∙ sym (end_none done last e)
last_kept done last (Some mode) e = end_run done (take text_held last) mode (mode_kept last ∙ e) ∙ sym (end_run done last mode e)

behind_kept : (lines : List (List ℕ)) (next : Option (List ℕ)) → cut_to text_held lines ++ following (option_map (take text_held) next) ≡ cut_to text_held (lines ++ following next)
behind_kept lines None = append-nil _ ∙ ap (cut_to text_held) (sym (append-nil lines))
behind_kept lines (Some last) = cut_last text_held (omega arith) lines last

told_kept : (next : Option (List ℕ)) (lines : List (List ℕ)) (done : List ℕ) → told_text done (cut_to text_held lines) (option_map (take text_held) next) ≡ told_text done lines next
told_kept None [] done = refl
told_kept (Some last) [] done = last_kept done last (mode_of last) refl
told_kept next (line ∷ lines) done = go (mode_of line) refl (told_kept next lines)
  where
    kept : List ℕ
    kept = take text_held line

    go : (o : Option Mode) → mode_of line ≡ o → ((d : List ℕ) → told_text d (cut_to text_held lines) (option_map (take text_held) next) ≡ told_text d lines next)
        → told_text done (cut_to text_held (line ∷ lines)) (option_map (take text_held) next) ≡ told_text done (line ∷ lines) next
    go None e h =
        told_line done kept (cut_to text_held lines) (option_map (take text_held) next) (mode_kept line ∙ e) ∙ h (done ++ (kept ++ 10 ∷ []))
        ∙ told_same _ _ lines next (kept_behind text_held done _ _ (cut_before text_held line (10 ∷ []))) ∙ sym (told_line done line lines next e)
    go (Some mode) e h =
        told_run done kept (cut_to text_held lines) (option_map (take text_held) next) mode (mode_kept line ∙ e)
        ∙ ap (λ ls. printed_for done (with_epochs [] mode ls)) (behind_kept lines next) ∙ epochs_kept done mode (lines ++ following next) ∙ sym (told_run done line lines next mode e)

-- ---- the whole input

-- the lines with their ends are the input
joined : (bytes line : List ℕ) → ended (ended_behind line bytes) ++ open_behind line bytes ≡ line ++ bytes
unfolding ended
joined [] line = sym (append-nil line)
joined (b ∷ bytes) line = grind (arith, eqb-true, append_assoc, joined bytes [], joined bytes (line ++ b ∷ []))

pub all_printed : (input : List ℕ) → printed_text [] (cut_to text_held (ended_lines input)) (take text_held (open_line input)) ≡ printed input
unfolding printed text_part
all_printed input =
    told_kept (Some (open_line input)) (ended_lines input) [] ∙ ap (λ ls. told_with [] (ended_lines input) (Some (open_line input)) (split_at_run ls)) (sym (all_lines input))
    ∙ grind (arith, joined input [])

due_told : (part : List ℕ) → told_with [] (lines_of part) None (split_at_run (lines_of part)) ≡ due_for runs printed [] part
unfolding printed text_part split_at_run lines_of pieces
due_told part = grind arith

pub all_due : (input : List ℕ) → given_text [] (cut_to text_held (ended_lines input)) ≡ due input
unfolding due
all_due input =
    told_kept None (ended_lines input) []
    ∙ ap₂ (λ ls ms. told_with [] ls None (split_at_run ms)) (sym (whole_lines input)) (append-nil (ended_lines input) ∙ sym (whole_lines input)) ∙ due_told (whole_part input)

-- ---- the compiler

-- a buffer of 29,394 bytes has room for every listing, which then stands at its start
pub listing_whole : (text out after : List ℕ) (end : ℕ) → listing_size ≤ length out
    → (end ≡ behind out 0 (listed text)) × (after ≡ appended out 0 (listed text)) → take end after ≡ listed text
listing_whole text out after end room p = put_take out 0 (listed text) after end (omega (arith, listed_short text)) p

-- of an input over the length of a text 32,769 bytes are enough
pub listing_cut : (input : List ℕ) → listed (take text_held input) ≡ listed input
unfolding listed
listing_cut input = ap (listing_of refusal_line) (text_cut newest_form input)

-- so the first 32,769 bytes of what was read are kept
pub listing_kept : (kept chunk next rest : List ℕ) → next ≡ take text_held (kept ++ chunk) → listed (kept ++ (chunk ++ rest)) ≡ listed (next ++ rest)
listing_kept kept chunk next rest e =
    cc (append_assoc kept chunk rest, listing_cut ((kept ++ chunk) ++ rest), cut_before text_held (kept ++ chunk) rest, listing_cut (take text_held (kept ++ chunk) ++ rest))

-- ---- the compiler on two texts

pub texts_listing_whole : (maker site out after : List ℕ) (end : ℕ) → listing_size ≤ length out
    → (end ≡ behind out 0 (listed_texts maker site)) × (after ≡ appended out 0 (listed_texts maker site)) → take end after ≡ listed_texts maker site
texts_listing_whole maker site out after end room p = put_take out 0 (listed_texts maker site) after end (omega (arith, texts_listed_short maker site)) p

-- and so they are of each
pub texts_listing_cut : (maker site : List ℕ) → listed_texts (take text_held maker) (take text_held site) ≡ listed_texts maker site
unfolding listed_texts
texts_listing_cut maker site = ap (listing_of texts_refusal_line) (texts_cut newest_form maker site)
