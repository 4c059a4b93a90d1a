-- The text of a line and its end, as the code appends it: from the parts of the line. That it is the line's text is proved
-- (`value_text_is` in proofs/ValueLaws.antt).
use Rattle.std.specs.Prelude.{ℕ, List, [], ◌∷◌, ◌++◌}
use Rattle.std.specs.Str.{byte}
use Rattle.policy.specs.Line.{PolicyLine, heads_of, comparisons_of, ending_of}
use Rattle.policy.specs.declared.comparison.Comparison.{Comparison}
use Rattle.policy.specs.declared.effect.Effect.{Effect}
use Rattle.policy.specs.declared.line.Ending.{Ending}
use Rattle.policy.specs.declared.line.Test.{Test}
use Rattle.lexer.specs.Byte.{bytes}
use Rattle.lexer.specs.Token.{Token}
use Rattle.printer.specs.Printed.{literal_token, action_token, event_token, reading_token, relation_token, operand_token}

unfoldable pub test_token : Test → Token
test_token (Test.Occurs l) = literal_token l
test_token (Test.Member a) = action_token a

unfoldable pub comparison_text : Comparison → List ℕ
comparison_text c = reading_token c.reading ++ byte " " ∷ relation_token c.relation ++ byte " " ∷ operand_token c.operand

module _ {A : Type 0} (text : A → List ℕ) where
  -- one text after another: `first` stands before the first of them, `next` before each other
  unfoldable pub linked : List ℕ → List ℕ → List A → List ℕ
  linked first next [] = []
  linked first next (x ∷ xs) = first ++ text x ++ linked next next xs

abbrev pub heads_text : List Test → List ℕ
heads_text ts = linked test_token [] (bytes " & ") ts

abbrev pub condition_text : List Comparison → List ℕ
condition_text cs = linked comparison_text (bytes " if ") (bytes " , ") cs

unfoldable pub effect_text : Effect → List ℕ
effect_text (Effect.Causes a) = bytes " causes " ++ action_token a
effect_text (Effect.Triggers e) = bytes " triggers " ++ event_token e

-- with the line's end
unfoldable pub ending_text : Ending → List ℕ → List ℕ → List ℕ
ending_text (Ending.Yields x) heads condition = heads ++ effect_text x ++ condition ++ 10 ∷ []
ending_text Ending.Never heads condition = bytes "never " ++ heads ++ condition ++ 10 ∷ []

unfoldable pub value_text : PolicyLine → List ℕ
value_text l = ending_text (ending_of l) (heads_text (heads_of l)) (condition_text (comparisons_of l))
