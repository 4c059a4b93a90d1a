-- What is held of a line asks what the line asks, whatever both go on with.
use Rattle.std.proofs.Common.{ℕ, zero, suc, ◌+◌, ◌-◌, ◌≤◌, Bool, true, false, cond, ◌&&◌, List, [], ◌∷◌, ◌++◌, append_assoc, append-nil, ◌≡◌, refl, sym, ap, ◌∙◌, arith, fold, length, length-take-le, set, take, take_all, min, ltb, take-take}
use Rattle.std.proofs.lemmas.List.Folds.{list_all-append}
use Rattle.std.proofs.lemmas.Bool.{and_from}
use Rattle.std.proofs.lemmas.Grind.{take-set_at}
use Rattle.std.proofs.Math.Seq.{take-append_seam}
use Rattle.std.specs.List.{list_all}
use Rattle.lexer.proofs.LeadingLaws.{leading_joined, leading_length, leading_pass, leading_ends}
use Rattle.lexer.specs.Byte.{is_digit}
use Rattle.lexer.specs.Lines.{take_leading, drop_leading}
use Rattle.lexer.specs.Number.{is_empty}
use Rattle.stream.proofs.FrontLaws.{cut_before}
use Rattle.questions.specs.Answered.{in_word, word_of, epoch_part, names_in}
use Rattle.questions.specs.Steps.Held.{asked_in, name_with, Open, with_byte, in_name, Short, is_begun, matter, Alike, Goes}
use Rattle.questions.specs.Steps.Sizes.{epoch_held, name_held, line_held}
use Rattle.questions.specs.declared.names.Names.{Names}
use Rattle.questions.proofs.NameLaws.{More, word_more}

matters : (n : Names) (l : List ℕ) (n' : Names) (l' : List ℕ) → is_begun n l ≡ is_begun n' l' → asked_in n (names_in (word_of l)) ≡ asked_in n' (names_in (word_of l')) → take epoch_held (epoch_part l) ≡ take epoch_held (epoch_part l')
    → matter n l ≡ matter n' l'
unfolding matter
matters n l n' l' b a p = rw (b, a, p) refl

begun_same : (n : Names) (l l' : List ℕ) → is_empty l ≡ is_empty l' → is_begun n l ≡ is_begun n l'
begun_same n l l' e = grind arith

-- ---- the word in front

pub leading_cut : (p : ℕ → Bool) (s : List ℕ) → take (length s - length (drop_leading p s)) s ≡ take_leading p s
leading_cut p s =
    let n : length (take_leading p s) ≡ length s - length (drop_leading p s) = omega (arith, leading_length p s) in
    rw (← n) (ap (take (length (take_leading p s))) (sym (leading_joined p s)) ∙ take-append_seam (take_leading p s) (drop_leading p s))

-- ---- a byte more of a name

pub name_step : (held : List ℕ) (size b : ℕ) → size ≤ length held → name_with (take size held) b ≡ cond (ltb 3 size && is_digit b) (take size held) (take (min size 3) held ++ b ∷ [])
unfolding name_with
name_step held size b h =
    let few : length (take size held) ≡ size = length-take-le size held h in
    let least : take 3 (take size held) ≡ take (min size 3) held = grind (arith, take-take, take_all, few) in
    rw (few, least) refl

pub name_set : (held : List ℕ) (size b last : ℕ) → last ≡ min size 3 → size ≤ name_held → name_held ≤ length held → ltb 3 size && is_digit b ≡ false
    → take (last + 1) (set held last b) ≡ name_with (take size held) b
name_set held size b last l h k f = rw (name_step held size b (omega arith), f, ← l) (take-set_at held last (last + 1) b refl (omega arith))

-- ---- a first word

word_front : (w rest : List ℕ) → list_all in_word w ≡ true → word_of (w ++ rest) ≡ w ++ word_of rest
unfolding word_of
word_front [] rest h = refl
word_front (b ∷ w) rest h = grind (arith, word_front w rest)

epoch_front : (w rest : List ℕ) → list_all in_word w ≡ true → epoch_part (w ++ rest) ≡ epoch_part rest
unfolding epoch_part
epoch_front [] rest h = refl
epoch_front (b ∷ w) rest h = grind (arith, epoch_front w rest)

-- words that tell the same, whatever they go on with, are alike in front of any bytes
words_matter : (n : Names) (v : List ℕ) (n' : Names) (w rest : List ℕ) → list_all in_word v ≡ true → list_all in_word w ≡ true → ((u : List ℕ) → is_begun n (v ++ u) ≡ is_begun n' (w ++ u))
    → ((u : List ℕ) → asked_in n (names_in (v ++ u)) ≡ asked_in n' (names_in (w ++ u))) → matter n (v ++ rest) ≡ matter n' (w ++ rest)
words_matter n v n' w rest h k begun asked =
    matters n _ n' _ (begun rest)
    (ap (λ t. asked_in n (names_in t)) (word_front v rest h) ∙ asked (word_of rest) ∙ ap (λ t. asked_in n' (names_in t)) (sym (word_front w rest k)))
    (ap (take epoch_held) (epoch_front v rest h ∙ sym (epoch_front w rest k)))

all_in_word : (w : List ℕ) → list_all in_name w ≡ true → list_all in_word w ≡ true
all_in_word [] h = refl
all_in_word (b ∷ w) h = grind (arith, all_in_word w)

-- ---- as much of a line as is held

record Cut (m : ℕ) (l rest : List ℕ) : Type 0 where
  empty : is_empty (take m l ++ rest) ≡ is_empty (l ++ rest)
  word : word_of (take m l ++ rest) ≡ word_of (l ++ rest)
  epoch : take epoch_held (epoch_part (take m l ++ rest)) ≡ take epoch_held (epoch_part (l ++ rest))

cut_epoch : (m : ℕ) (s rest : List ℕ) → epoch_held ≤ m → take epoch_held (take m s ++ rest) ≡ take epoch_held (s ++ rest)
cut_epoch m s rest h =
    sym (take-take epoch_held m (take m s ++ rest) h) ∙ ap (take epoch_held) (cut_before m s rest) ∙ take-take epoch_held m (s ++ rest) h

cut_line : (l : List ℕ) (m : ℕ) (rest : List ℕ) → length (word_of l) + 1 + epoch_held ≤ m → Cut m l rest
unfolding word_of epoch_part
cut_line l zero rest h = absurd (omega (arith, h))
cut_line [] (suc m) rest h = record { empty = refl; word = refl; epoch = refl }
cut_line (b ∷ s) (suc m) rest h = grind (arith, cut_line s m rest, cut_epoch m s rest)

word_stays : (l part : List ℕ) → list_all in_word l ≡ false → word_of (l ++ part) ≡ word_of l
unfolding word_of
word_stays [] part h = cc
word_stays (b ∷ l) part h = grind (arith, word_stays l part)

word_empty : word_of [] ≡ []
unfolding word_of
word_empty = refl

-- nothing is held before a line
pub nothing_short : Short []
unfolding word_of
nothing_short = record { few = omega arith; one = refl }

-- where all of a line is its word
pub held_word : (l : List ℕ) → list_all in_word l ≡ true → word_of l ≡ l
held_word l h = ap word_of (sym (append-nil l)) ∙ word_front l [] h ∙ ap (λ w. l ++ w) word_empty ∙ append-nil l

-- what is held behind a part
module _ (m : ℕ) (enough : line_held ≤ m) (names : Names) (l part : List ℕ) (names' : Names) (l' : List ℕ) where
  goes : (line : List ℕ) → Short line → Alike names' line names (l ++ part) → l' ≡ take m line → Goes names l part names' l'
  unfolding matter
  goes line h same is =
      let c : (rest : List ℕ) → Cut m line rest = λ rest. cut_line line m rest (omega (arith, h.few)) in
      let e : word_of (take m line) ≡ word_of line = ap word_of (sym (append-nil (take m line))) ∙ (c []).word ∙ ap word_of (append-nil line) in
      rw is
      (record {
        short = record { few = rw e h.few; one = rw e h.one };
        alike = λ rest. matters names' _ names' _ (begun_same names' _ _ (c rest).empty) (ap (λ w. asked_in names' (names_in w)) (c rest).word) (c rest).epoch ∙ same rest;
      })

  -- of a word, or of a line whose word has ended
  pub word_goes : Short l → list_all in_word l ≡ true → (w : List ℕ) → record { names = names'; name = w } ≡ fold with_byte (record { names = names; name = l }) (take_leading in_word part) → l' ≡ take m (w ++ drop_leading in_word part)
      → Goes names l part names' l'
  unfolding word_of
  word_goes h whole w e is =
      let v = take_leading in_word part in
      let t = drop_leading in_word part in
      let same : word_of l ≡ l = held_word l whole in
      let passes = leading_pass in_word part in
      let start : Open = record { names = names; name = l } in
      let m : More start v (record { names = names'; name = w }) = rw e (word_more v start (rw (← same) h.few) (rw (← same) h.one) passes) in
      let all_word : list_all in_word w ≡ true = all_in_word w m.one in
      let front : word_of (w ++ t) ≡ w = word_front w t all_word ∙ ap (λ x. w ++ x) (leading_ends in_word part) ∙ append-nil w in
      goes (w ++ t) (record { few = rw front m.few; one = rw front m.one })
      (λ rest.
      ap (matter names') (append_assoc w t rest)
      ∙ words_matter names' w names (l ++ v) (t ++ rest) all_word (list_all-append in_word l v ∙ and_from _ _ whole passes) (λ u. m.begun u ∙ ap (is_begun names) (sym (append_assoc l v u))) (λ u. m.asked u ∙ ap (λ x. asked_in names (names_in x)) (sym (append_assoc l v u)))
      ∙ ap (matter names) (sym (append_assoc (l ++ v) t rest) ∙ ap (λ x. x ++ rest) (append_assoc l v t ∙ ap (λ x. l ++ x) (leading_joined in_word part))))
      is

pub line_goes : (m : ℕ) → line_held ≤ m → (names : Names) (l part l' : List ℕ) → Short l → list_all in_word l ≡ false → l' ≡ take m (l ++ part) → Goes names l part names l'
line_goes m enough names l part l' h e is =
    let stays = word_stays l part e in
    goes m enough names l part names l' (l ++ part) (record { few = rw stays h.few; one = rw stays h.one }) (λ rest. refl) is
