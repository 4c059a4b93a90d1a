-- The lines that the programs print (docs/REFERENCE.md, "The programs").
use Rattle.std.specs.Str.{byte}
use Rattle.std.specs.Prelude.{ℕ, ◌+◌, ◌%◌, ◌^◌, List, [], ◌∷◌, ◌++◌}
use Rattle.lexer.specs.Byte.{bytes}
use Rattle.output.specs.Number.{decimal, hex_word}
use Rattle.policy.specs.Fault.{fault_number, source_number}
use Rattle.policy.specs.declared.fault.Fault.{Fault}
use Rattle.policy.specs.declared.fault.Refusal.{Refusal}
use Rattle.policy.specs.declared.fault.Source.{Source}

-- the number behind n: those of epochs, of questions and of a dump's lines are of 64 bits
abbrev pub next_number : ℕ → ℕ
next_number n = (n + 1) % 2 ^ 64

-- ---- actions

unfoldable pub action_name : ℕ → List ℕ
action_name n = byte "A" ∷ decimal n

-- each after a comma
unfoldable pub further_names : List ℕ → List ℕ
further_names [] = []
further_names (n ∷ ns) = byte "," ∷ action_name n ++ further_names ns

unfoldable pub action_names : List ℕ → List ℕ
action_names [] = byte "-" ∷ []
action_names (n ∷ ns) = action_name n ++ further_names ns

-- ---- lines

abbrev newline : List ℕ
newline = 10 ∷ []

-- a word of the image
unfoldable pub word_line : ℕ → List ℕ
word_line w = hex_word w ++ newline

-- a refusal, with the word that tells what its location counts
abbrev pub located_line : List ℕ → Refusal → List ℕ
located_line unit r = bytes "refused " ++ decimal (fault_number r.fault) ++ unit ++ decimal r.location ++ newline

-- a refused text
unfoldable pub refusal_line : Refusal → List ℕ
refusal_line r = located_line (bytes " line ") r

-- a refused text of two, whose location also says which
abbrev pub text_field : Source → List ℕ
text_field source = bytes " text " ++ decimal (source_number source) ++ bytes " line "

unfoldable pub texts_refusal_line : Refusal → List ℕ
texts_refusal_line r = located_line (text_field r.source) r

-- a refused image
unfoldable pub image_refusal_line : Refusal → List ℕ
image_refusal_line r = located_line (bytes " word ") r

-- the line of that number, of what should be the words of an image, is none
unfoldable pub not_word_line : ℕ → List ℕ
not_word_line n = bytes "line " ++ decimal n ++ bytes " is not a word" ++ newline

-- each line of an epoch, refused or not, ends in ` words W`
unfoldable pub words_field : ℕ → List ℕ
words_field words = bytes " words " ++ decimal words ++ newline

-- the epoch of that number, decided: the numbers of the accepted actions and of the cancelled ones
unfoldable pub accept_line : ℕ → List ℕ → List ℕ → ℕ → List ℕ
accept_line n accepted cancelled words =
    decimal n ++ bytes " accept " ++ action_names accepted ++ bytes " cancel " ++ action_names cancelled ++ words_field words

-- the epoch or the question of that number, refused
abbrev pub refused_field : ℕ → Fault → List ℕ
refused_field n fault = decimal n ++ bytes " refused " ++ decimal (fault_number fault)

-- a refused epoch fetched no word
unfoldable pub refused_line : ℕ → Fault → List ℕ
refused_line n fault = refused_field n fault ++ words_field 0

-- ---- the answers to questions, each with its number

unfoldable pub not_proposed_line : ℕ → List ℕ
not_proposed_line n = decimal n ++ bytes " not proposed" ++ newline

-- what became of the action, the text that the part stands in, and the part
unfoldable pub shown_line : ℕ → List ℕ → Source → List ℕ → List ℕ
shown_line n became source part = decimal n ++ became ++ decimal (source_number source) ++ bytes " " ++ part ++ newline

unfoldable pub not_explained_line : ℕ → Fault → List ℕ
not_explained_line n fault = refused_field n fault ++ newline
