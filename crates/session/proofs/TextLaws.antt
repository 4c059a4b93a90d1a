-- Laws of the text: its lines one by one, of which no more is kept than tells that the text is too long.
use Rattle.std.proofs.Common.{◌≡◌, ℕ, arith, List, [], ◌∷◌, ◌++◌, take, refl, sym, ap, ◌∙◌, append_assoc, append-nil, Option, Some, None}
use Rattle.policy.specs.declared.mode.Mode.{Mode}
use Rattle.acceptance.proofs.Cut.{text_cut}
use Rattle.codegen.proofs.RoomLaws.{Read}
use Rattle.codegen.specs.Compile.{newest_form}
use Rattle.lexer.specs.Byte.{bytes, bytes_equal, is}
use Rattle.rule_text.specs.Text.{read_text}
use Rattle.stream.proofs.FrontLaws.{cut_before}
use Rattle.session.specs.Printed.{Session, text_only, with_epochs, mode_of, to_text, split_at_run, ended, epoch_lines, answers_to, printed_for}
use Rattle.session.specs.Steps.Session.{following, told_with, told_text, TextEnds}
use Rattle.session.specs.Steps.Sizes.{text_held}

-- ---- what is kept of a text tells what is printed for it

-- of two texts the same is kept
abbrev pub KeptSame : List ℕ → List ℕ → Type 0
KeptSame x y = take text_held x ≡ take text_held y

pub printed_same : (x y : List ℕ) (s : Session) → KeptSame x y → printed_for x s ≡ printed_for y s
unfolding printed_for
printed_same x y s e = ap (λ r. answers_to r s) (sym (text_cut newest_form x) ∙ ap (read_text newest_form) e ∙ text_cut newest_form y)

kept_more : (x y more : List ℕ) → KeptSame x y → KeptSame (x ++ more) (y ++ more)
kept_more x y more e = sym (cut_before text_held x more) ∙ ap (λ (l : List ℕ). take text_held (l ++ more)) e ∙ cut_before text_held y more

pub told_same : (x y : List ℕ) (lines : List (List ℕ)) (next : Option (List ℕ)) → KeptSame x y → told_text x lines next ≡ told_text y lines next
told_same x y lines next e = go next (split_at_run (lines ++ following next))
  where
    go : (o : Option (List ℕ)) (s : Session) → told_with x lines o s ≡ told_with y lines o s
    go o (with_epochs t mode es) = printed_same (x ++ ended t) (y ++ ended t) (with_epochs t mode es) (kept_more x y (ended t) e)
    go None text_only = refl
    go (Some last) text_only = printed_same (x ++ (ended lines ++ last)) (y ++ (ended lines ++ last)) text_only (kept_more x y (ended lines ++ last) e)

-- ---- one line more

-- the lines of the text don't matter where its bytes are told
to_text_is : (text line : List ℕ) (s : Session) → printed_for text (to_text line s) ≡ printed_for text s
unfolding printed_for answers_to to_text
to_text_is text line s = grind arith

module _ (done line : List ℕ) (rest : List (List ℕ)) (next : Option (List ℕ)) where
  told_step : (s : Session) → told_with done (line ∷ rest) next (to_text line s) ≡ told_with (done ++ (line ++ 10 ∷ [])) rest next s
  unfolding to_text ended
  told_step s = grind (arith, append_assoc, to_text_is)

  -- a line of the text
  pub told_line : mode_of line ≡ None → told_text done (line ∷ rest) next ≡ told_text (done ++ (line ++ 10 ∷ [])) rest next
  unfolding split_at_run
  told_line e = rw e (told_step (split_at_run (rest ++ following next)))

  -- the line that picks a mode
  pub told_run : (mode : Mode) → mode_of line ≡ Some mode → told_text done (line ∷ rest) next ≡ printed_for done (with_epochs [] mode (rest ++ following next))
  unfolding split_at_run ended
  told_run mode e = rw (e, append-nil done)

-- ---- the input ends in the text

-- no epoch follows
no_epochs : (text : List ℕ) (mode : Mode) → printed_for text (with_epochs [] mode []) ≡ printed_for text text_only
unfolding printed_for answers_to epoch_lines
no_epochs text mode = grind arith

pub end_none : (done last : List ℕ) → mode_of last ≡ None → told_text done [] (Some last) ≡ printed_for (done ++ last) text_only
unfolding split_at_run ended to_text
end_none done last e = grind (arith, append-nil)

pub end_run : (done last : List ℕ) (mode : Mode) → mode_of last ≡ Some mode → told_text done [] (Some last) ≡ printed_for done text_only
unfolding split_at_run ended mode_of is bytes bytes_equal
end_run done last mode e = grind (arith, append-nil, no_epochs)

-- ---- the text is complete

pub accepted_prints : (text image after : List ℕ) (size : ℕ) → after ≡ image → Read newest_form (read_text newest_form text) image size → TextEnds text after (Some size)
unfolding printed_for answers_to
accepted_prints text image after size same r = (rw r.read, λ mode epochs. rw (r.read, same, r.image))
