-- What the explaining program prints (docs/REFERENCE.md, "The programs"). A question is an action, one space and an epoch line, as
-- `A4 E1 E3 R0=41`; `A4` alone asks of the empty epoch. Behind the action, each behind a comma, stand the events that are pending, as in
-- `A4,E60 E1`.
use Rattle.std.specs.Str.{byte}
use Rattle.std.specs.Prelude.{ℕ, Bool, not, List, [], ◌∷◌, ◌++◌, length, drop, fold, min, Result, Ok, Err, Option, Some, None, option_map, nat_lt, ◌==◌, if◌then◌else◌}
use Rattle.std.specs.Option.{option_map_or}
use Rattle.policy.specs.Fault.{refusal}
use Rattle.policy.specs.declared.fault.Fault.{Fault}
use Rattle.policy.specs.Number.{set_limit, check_event}
use Rattle.policy.specs.Policy.{Policy}
use Rattle.policy.specs.Set.{no_events, insert_event}
use Rattle.policy.specs.declared.fault.Refusal.{Refusal}
use Rattle.policy.specs.declared.fault.Source.{Source}
use Rattle.lexer.specs.Byte.{bytes, is_space}
use Rattle.lexer.specs.Lines.{prepend, lines_of, take_leading, drop_leading}
use Rattle.codegen.specs.Compile.{newest_form}
use Rattle.lexer.specs.Token.{named}
use Rattle.epoch_line.specs.Epoch.{epoch_limit}
use Rattle.rule_text.specs.Text.{read_texts}
use Rattle.explanation.specs.Part.{Quote, of_maker, of_site}
use Rattle.explanation.specs.Why.{Explanation, not_proposed, accepted_by, cancelled_by, explained}
use Rattle.questions.specs.declared.names.Asked.{Asked}
use Rattle.report.specs.Report.{texts_refusal_line, not_proposed_line, shown_line, not_explained_line, next_number}

-- ---- a question

abbrev pub in_word : ℕ → Bool
in_word b = not (is_space b)

-- the bytes before the first space, and the epoch line behind it
unfoldable pub word_of : List ℕ → List ℕ
word_of line = take_leading in_word line

unfoldable pub epoch_part : List ℕ → List ℕ
epoch_part line = drop 1 (drop_leading in_word line)

-- the first word split at its commas
unfoldable pub names_in : List ℕ → List (List ℕ)
names_in [] = [] ∷ []
names_in (b ∷ s) = if b == byte "," then [] ∷ names_in s else prepend b (names_in s)

-- the action comes first. Numbers over 63 are all the same: no action has one
unfoldable pub first_asked : ℕ → Asked
first_asked n = record { action = min n set_limit; pending = no_events }

-- and an event behind each comma; one over 63 is refused as an action over 63 is
unfoldable pub with_event : Asked → ℕ → Asked
with_event a n =
    option_map_or (λ event. record { action = a.action; pending = insert_event a.pending event }) (check_event n) (record { action = set_limit; pending = a.pending })

unfoldable pub behind_comma : Option Asked → List ℕ → Option Asked
behind_comma None name = None
behind_comma (Some a) name = option_map (with_event a) (named (byte "E") name)

unfoldable pub asked_by : List (List ℕ) → Option Asked
asked_by [] = None
asked_by (name ∷ names) = fold behind_comma (option_map first_asked (named (byte "A") name)) names

-- a first word with another name is refused under 12; as always, 1 comes before it
unfoldable pub no_action : List ℕ → Refusal
no_action epoch = refusal (if nat_lt epoch_limit (length epoch) then Fault.TooLong else Fault.EpochSyntax) 0

-- ---- what is printed of an answer

-- with what became of the action, the line that says why
unfoldable pub quoted_line : ℕ → List ℕ → Quote → List ℕ
quoted_line n became (of_maker x) = shown_line n became Source.Maker x.bytes
quoted_line n became (of_site x) = shown_line n became Source.Site x.bytes

unfoldable pub explained_line : ℕ → Result Explanation Refusal → List ℕ
explained_line n (Err r) = not_explained_line n r.fault
explained_line n (Ok not_proposed) = not_proposed_line n
explained_line n (Ok (accepted_by x)) = quoted_line n (bytes " accepted ") x
explained_line n (Ok (cancelled_by x)) = quoted_line n (bytes " cancelled ") x

module _ (maker site : List ℕ) where
  -- ---- the answer to a question

  unfoldable pub answer_for : Option Asked → List ℕ → Result Explanation Refusal
  answer_for (Some a) epoch = explained maker site a.pending epoch a.action
  answer_for None epoch = Err (no_action epoch)

  unfoldable pub question_answer : List ℕ → Result Explanation Refusal
  question_answer line = answer_for (asked_by (names_in (word_of line))) (epoch_part line)

  -- ---- all of them

  -- after n questions
  unfoldable pub answer_lines : ℕ → List (List ℕ) → List ℕ
  answer_lines n [] = []
  answer_lines n (line ∷ lines) = explained_line (next_number n) (question_answer line) ++ answer_lines (next_number n) lines

  -- refused texts print their refusal and nothing else
  unfoldable pub answers_on : Result Policy Refusal → List (List ℕ) → List ℕ
  answers_on (Err r) lines = texts_refusal_line r
  answers_on (Ok p) lines = answer_lines 0 lines

  -- the whole: both texts and all bytes of the input to all bytes of the output
  unfoldable pub answers_printed : List ℕ → List ℕ
  answers_printed input = answers_on (read_texts newest_form maker site) (lines_of input)
