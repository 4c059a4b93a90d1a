-- Lines that are printed, one row each.
use Rattle.std.specs.Prelude.{ℕ, List, [], ◌∷◌}
use Prim.Native.String.{String}
use Rattle.policy.specs.Fault.{refusal, within}
use Rattle.policy.specs.Set.{actions_from, members_of}
use Rattle.policy.specs.declared.fault.Fault.{Fault}
use Rattle.policy.specs.declared.fault.Source.{Source}
use Rattle.lexer.specs.Byte.{bytes}
use Rattle.report.specs.Report.{word_line, refusal_line, texts_refusal_line, image_refusal_line, not_word_line, accept_line, refused_line, not_proposed_line, shown_line, not_explained_line}

pub record Example : Type 0 where
  pub line : List ℕ
  pub printed : String

abbrev row : List ℕ → String → Example
row line printed = record { line = line; printed = printed }

unfoldable pub examples : List Example
examples =
    row (word_line 16805891) "01007003\n"
    ∷ row (word_line 272629764) "10400004\n"
    ∷ row (word_line 545259523) "20800003\n"
    ∷ row (word_line 805339137) "30008001\n"
    ∷ row (word_line 40) "00000028\n"
    ∷ row (word_line 1354760192) "50C00000\n"
    ∷ row (word_line 281018369) "10C00001\n"
    ∷ row (word_line 1358954496) "51000000\n"
    ∷ row (word_line 1623195650) "60C00002\n"
    ∷ row (word_line 1627389953) "61000001\n"
    ∷ row (word_line 1879048192) "70000000\n"
    ∷ row (word_line 3120500681) "B9FF0FC9\n"
    ∷ row (refusal_line (refusal Fault.Syntax 3)) "refused 2 line 3\n"
    ∷ row (refusal_line (refusal Fault.BufferTooSmall 0)) "refused 15 line 0\n"
    ∷ row (texts_refusal_line (within Source.Maker (refusal Fault.Syntax 3))) "refused 2 text 1 line 3\n"
    ∷ row (texts_refusal_line (within Source.Site (refusal Fault.TooLong 0))) "refused 1 text 2 line 0\n"
    ∷ row (texts_refusal_line (refusal Fault.BufferTooSmall 0)) "refused 15 text 0 line 0\n"
    ∷ row (image_refusal_line (refusal Fault.ImageBody 6)) "refused 11 word 6\n"
    ∷ row (not_word_line 3267) "line 3267 is not a word\n"
    ∷ row (accept_line 1 (3 ∷ []) (4 ∷ []) 12) "1 accept A3 cancel A4 words 12\n"
    ∷ row (accept_line 2 (4 ∷ []) [] 7) "2 accept A4 cancel - words 7\n"
    ∷ row (accept_line 3 (4 ∷ []) [] 5) "3 accept A4 cancel - words 5\n"
    ∷ row (accept_line 4 [] [] 2) "4 accept - cancel - words 2\n"
    ∷ row (refused_line 5 Fault.EpochRange) "5 refused 13 words 0\n"
    ∷ row (accept_line 100 (members_of (actions_from (63 ∷ 0 ∷ 10 ∷ []))) (members_of (actions_from (2 ∷ 1 ∷ []))) 71808) "100 accept A0,A10,A63 cancel A1,A2 words 71808\n"
    ∷ row (shown_line 1 (bytes " accepted ") Source.Maker (bytes "E1 causes A4")) "1 accepted 1 E1 causes A4\n"
    ∷ row (shown_line 20 (bytes " cancelled ") Source.Site (bytes "never A4 & A5")) "20 cancelled 2 never A4 & A5\n"
    ∷ row (not_proposed_line 3) "3 not proposed\n"
    ∷ row (not_explained_line 4 Fault.EpochRange) "4 refused 13\n"
    ∷ []

unfoldable pub printed_line : Example → List ℕ
printed_line x = x.line

unfoldable pub expected : Example → List ℕ
expected x = bytes x.printed
