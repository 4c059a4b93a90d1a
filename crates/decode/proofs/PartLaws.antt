-- The words of a line say its parts.
use Rattle.std.proofs.Common.{ℕ, ◌<◌, ◌≤◌, true, List, [], ◌∷◌, ◌++◌, map, append_assoc, suc, ◌≡◌, refl, ap, arith, ltb-true, length, length-append, get_or}
use Rattle.std.proofs.lemmas.Bool.{and_parts}
use Rattle.std.proofs.Math.Seq.{get_or_at}
use Rattle.policy.proofs.ValidLaws.{ValidParts, valid_out, test_in_range}
use Rattle.policy.specs.Limits.{valid, test_number, comparison_in_range}
use Rattle.policy.specs.Line.{PolicyLine, heads_of, comparisons_of, ending_of}
use Rattle.std.specs.List.{list_all}
use Rattle.policy.specs.declared.comparison.Comparison.{Comparison}
use Rattle.policy.specs.declared.line.Ending.{Ending}
use Rattle.policy.specs.declared.line.Test.{Test}
use Rattle.operation.specs.Parts.{test_word, comparison_words, ending_word}
use Rattle.operation.specs.Said.{says, constants_of}
use Rattle.operation.specs.declared.said.LinePart.{LinePart}
use Rattle.operation.proofs.PartsLaws.{Written, written}
use Rattle.operation.proofs.SaidLaws.{test_said, ending_said, constant_said, reading_said}
use Rattle.layout.specs.Layout.{condition_words, part_words, line_words}
use Rattle.layout.proofs.LayoutLaws.{part_length, condition_size_limit, tail_small}
use Rattle.decode.specs.Steps.Decoding.{said_in}

pub said_in_by : (w : ℕ) (ws : List ℕ) (p : LinePart) → says w (get_or ws 0 0) ≡ p → said_in 0 (w ∷ ws) ≡ p ∷ said_in (constants_of p) ws
unfolding said_in
said_in_by w ws p e = ap (λ (x : LinePart). x ∷ said_in (constants_of x) ws) e

pub comparison_parts : (c : Comparison) (k : ℕ) (ws : List ℕ) → Written c k → said_in 0 (comparison_words c k ++ ws) ≡ LinePart.Comparison c ∷ said_in 0 ws
unfolding said_in
comparison_parts c k ws h = grind (arith, constant_said, said_in_by, reading_said)

-- the words before the last, and what they say
pub record Front (ts : List Test) (cs : List Comparison) (e : Ending) : Type 0 where
  pub words : List ℕ
  pub whole : part_words ts cs e ≡ words ++ ending_word e ∷ []
  pub tells : (rest : List ℕ) → said_in 0 (words ++ rest) ≡ map LinePart.Head ts ++ (map LinePart.Comparison cs ++ said_in 0 rest)

module _ (e : Ending) where
  condition_front : (cs : List Comparison) → list_all comparison_in_range cs ≡ true → length cs ≤ 4 → Front [] cs e
  unfolding part_words condition_words
  condition_front [] r l = record { words = []; whole = refl; tells = λ rest. refl }
  condition_front (c ∷ cs) r l =
      let p = and_parts (comparison_in_range c) (list_all comparison_in_range cs) r in
      let k : ℕ = length (condition_words cs e) in
      let f = condition_front cs p.1 (omega arith) in
      record {
        words = comparison_words c k ++ f.words;
        whole = rw append_assoc (cc f.whole);
        tells = λ rest. rw (append_assoc (comparison_words c k) f.words rest, comparison_parts c k (f.words ++ rest) (written c k p.0 (omega (arith, tail_small cs e (omega arith)))), f.tells rest);
      }

  parts_front : (cs : List Comparison) → list_all comparison_in_range cs ≡ true → length cs ≤ 4 → (ts : List Test) → list_all test_in_range ts ≡ true → length ts ≤ 8 → Front ts cs e
  unfolding part_words constants_of
  parts_front cs r few [] t l = condition_front cs r few
  parts_front cs r few (x ∷ xs) t l =
      let p = and_parts (test_in_range x) (list_all test_in_range xs) t in
      let k : ℕ = length (part_words xs cs e) in
      let f = parts_front cs r few xs p.1 (omega arith) in
      let small : k < 32 = omega (arith, part_length xs cs e, condition_size_limit cs) in
      record {
        words = test_word x k ∷ f.words;
        whole = cc f.whole;
        tells = λ rest. rw (said_in_by (test_word x k) (f.words ++ rest) (LinePart.Head x) (test_said x k (get_or (f.words ++ rest) 0 0) (ltb-true (test_number x) 64 p.0) small), f.tells rest);
      }

pub front : (ts : List Test) (cs : List Comparison) (e : Ending) → ValidParts ts cs e → Front ts cs e
front ts cs e v = parts_front e cs v.comparisons v.few_comparisons ts v.tests v.few_tests

pub last_word : (ts : List Test) (cs : List Comparison) (e : Ending) → ValidParts ts cs e → (rest : List ℕ) (m : ℕ) → length (part_words ts cs e) ≡ suc m → get_or (part_words ts cs e ++ rest) m 0 ≡ ending_word e
last_word ts cs e v rest m l =
    let f = front ts cs e v in
    rw (f.whole, append_assoc f.words (ending_word e ∷ []) rest) (get_or_at f.words (ending_word e) rest 0 m (omega (arith, ap length f.whole, length-append f.words (ending_word e ∷ []))))

-- comparisons and an ending, and heads before them
abbrev pub condition_parts : List Comparison → Ending → List LinePart → List LinePart
condition_parts cs e rest = map LinePart.Comparison cs ++ (LinePart.Ending e ∷ rest)

abbrev pub line_parts : List Test → List Comparison → Ending → List LinePart → List LinePart
line_parts ts cs e rest = map LinePart.Head ts ++ condition_parts cs e rest

pub line_said : (l : PolicyLine) (rest : List ℕ) → valid l ≡ true → said_in 0 (line_words l ++ rest) ≡ line_parts (heads_of l) (comparisons_of l) (ending_of l) (said_in 0 rest)
unfolding line_words constants_of
line_said l rest v =
    let h = valid_out l v in
    let e : Ending = ending_of l in
    let f = front (heads_of l) (comparisons_of l) e h in
    rw (f.whole, append_assoc f.words (ending_word e ∷ []) rest, f.tells (ending_word e ∷ rest), said_in_by (ending_word e) rest (LinePart.Ending e) (ending_said e (get_or rest 0 0) h.ending))
