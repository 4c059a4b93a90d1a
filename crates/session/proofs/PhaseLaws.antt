-- Laws of the phases: a line, and the end of the input.
use Rattle.std.proofs.Common.{◌≡◌, ℕ, List, [], ◌∷◌, ◌++◌, take, sym, ap, ◌∙◌, append-nil, Option, Some, None}
use Rattle.policy.specs.Set.{no_events}
use Rattle.policy.specs.declared.mode.Mode.{Mode}
use Rattle.lined.proofs.LineLaws.{cut_again}
use Rattle.session.specs.Printed.{text_only, with_epochs, mode_of, epoch_lines, printed_for}
use Rattle.session.specs.Steps.Session.{following, TextEnds, told_text}
use Rattle.session.specs.Steps.Sizes.{text_held}
use Rattle.session.proofs.TextLaws.{printed_same, told_same, told_line, told_run, end_none}

-- a line is taken, and this is printed for it
abbrev pub Takes : (line text : List ℕ) (old new : List (List ℕ) → Option (List ℕ) → List ℕ) → Type 0
Takes line text old new = (rest : List (List ℕ)) (next : Option (List ℕ)) → old (line ∷ rest) next ≡ text ++ new rest next

module _ (done line : List ℕ) where
  -- a line of the text
  pub kept_goes : (kept : List ℕ) → mode_of line ≡ None → kept ≡ take text_held (done ++ (line ++ 10 ∷ [])) → Takes line [] (told_text done) (told_text kept)
  kept_goes kept none is rest next =
      let same : take text_held (done ++ (line ++ 10 ∷ [])) ≡ take text_held kept = sym (ap (take text_held) is ∙ cut_again text_held _) in
      told_line done line rest next none ∙ told_same _ kept rest next same

  -- the line that picks a mode
  module _ (mode : Mode) (made : List ℕ) (some : mode_of line ≡ Some mode) where
    pub refused_goes : TextEnds done made None → Takes line (printed_for done text_only) (told_text done) (λ rest next. [])
    refused_goes ends rest next = told_run done line rest next mode some ∙ ends (with_epochs [] mode (rest ++ following next)) ∙ sym (append-nil _)

    pub accepted_goes : (size : ℕ) → TextEnds done made (Some size)
        → Takes line (printed_for done text_only) (told_text done) (λ rest next. epoch_lines mode (take size made) no_events 0 (rest ++ following next))
    accepted_goes size (quiet, ends) rest next = rw quiet (told_run done line rest next mode some ∙ ends mode (rest ++ following next))

  -- the input ends
  pub end_kept : (kept : List ℕ) → mode_of line ≡ None → kept ≡ take text_held (done ++ line) → printed_for kept text_only ≡ told_text done [] (Some line)
  end_kept kept none is = printed_same kept (done ++ line) text_only (ap (take text_held) is ∙ cut_again text_held (done ++ line)) ∙ sym (end_none done line none)
