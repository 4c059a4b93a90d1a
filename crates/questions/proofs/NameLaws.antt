-- Laws of the names of a first word: how a number is read, which further bytes of a name tell nothing, and what names together ask.
use Rattle.std.proofs.Common.{ℕ, suc, ◌+◌, ◌*◌, ◌-◌, ◌<◌, ◌≤◌, Bool, true, false, not, cond, eqb, List, [], ◌∷◌, ◌++◌, append_assoc, append-nil, ◌≡◌, refl, sym, ap, ◌∙◌, arith, fold, get_or, length, length-append, length-take, take, take_all, drop, min, eqb-true, zero, Option, Some, None, option_map, option_and_then}
use Rattle.std.proofs.lemmas.List.Folds.{list_all-append}
use Rattle.std.proofs.lemmas.Bool.{and_from, and_parts}
use Rattle.std.proofs.lemmas.List.{take_rest}
use Rattle.std.proofs.lemmas.Bool.Decides.{nat_tests}
use Rattle.std.specs.List.{list_all}
use Rattle.policy.specs.Number.{check_event}
use Rattle.lexer.proofs.DigitLaws.{not_number}
use Rattle.lexer.proofs.LeadingLaws.{leading_joined}
use Rattle.lexer.proofs.RunLaws.{all_broken}
use Rattle.lexer.specs.Byte.{is_digit}
use Rattle.lexer.specs.Lines.{prepend, take_leading, drop_leading}
use Rattle.lexer.specs.Number.{decimal_from, is_empty, number_of}
use Rattle.lexer.specs.Steps.Scan.{clip, digits_in}
use Rattle.lexer.specs.Token.{named}
use Rattle.questions.specs.Answered.{in_word, names_in, first_asked, with_event, behind_comma, asked_by}
use Rattle.questions.specs.Steps.Held.{asked_with, asked_in, name_with, Open, with_byte, in_name, is_begun}
use Rattle.questions.specs.Steps.Sizes.{name_held}
use Rattle.questions.specs.declared.names.Asked.{Asked}
use Rattle.questions.specs.declared.names.Names.{Names}

-- ---- numbers

leading_whole : (p : ℕ → Bool) (s : List ℕ) → drop_leading p s ≡ [] → take_leading p s ≡ s
leading_whole p s e = sym (append-nil _) ∙ ap (λ l. take_leading p s ++ l) (sym e) ∙ leading_joined p s

pub leading_all : (p : ℕ → Bool) (s : List ℕ) → list_all p s ≡ is_empty (drop_leading p s)
leading_all p [] = refl
leading_all p (b ∷ s) = grind (arith, leading_all p s)

-- a number is the one that its digits in front are, where nothing stands behind them
abbrev alone : Option (ℕ × List ℕ) → Option ℕ
alone read = option_and_then (λ (r : ℕ × List ℕ). cond (is_empty r.1) (Some r.0) None) read

pub number_whole : (text : List ℕ) → option_map clip (number_of text) ≡ option_and_then (λ (r : ℕ × List ℕ). cond (is_empty r.1) (Some r.0) None) (digits_in text)
unfolding digits_in
number_whole text = grind (arith, leading_whole is_digit text, not_number text, leading_all is_digit text)

pub named_first : (c : ℕ) (text : List ℕ) → named c text ≡ cond (eqb (get_or text 0 0) c) (number_of (take (length text - 1) (drop 1 text))) None
unfolding named number_of
named_first c [] = grind (arith, take_all)
named_first c (b ∷ s) = rw (take_rest (b ∷ s) 1) refl

pub named_none : (c : ℕ) (text : List ℕ) → length text < 1 → None ≡ option_map clip (named c text)
unfolding named
named_none c [] h = refl
named_none c (b ∷ s) h = absurd (omega (arith, h))

-- numbers over 63 are all the same
abbrev over : ℕ → ℕ
over n = min n 64

first_over : (m n : ℕ) → over m ≡ over n → first_asked m ≡ first_asked n
unfolding first_asked
first_over m n e = rw e refl

event_over : (m n : ℕ) → over m ≡ over n → check_event m ≡ check_event n
event_over m n e = grind (arith, e)

-- as it is read, a number is at most 3,000,000,000
pub first_read : (o : Option ℕ) → option_map first_asked (option_map clip o) ≡ option_map first_asked o
first_read o = grind (arith, first_over)

pub event_read : (a : Asked) (o : Option ℕ) → option_map (with_event a) (option_map clip o) ≡ option_map (with_event a) o
unfolding with_event
event_read a o = grind (arith, event_over)

-- ---- a byte more of a name

over_from : (v : ℕ) (ds : List ℕ) → 64 ≤ v → 64 ≤ decimal_from v ds
unfolding decimal_from
over_from v [] h = h
over_from v (d ∷ ds) h = over_from (v * 10 + (d - 48)) ds (omega arith)

-- behind three digits one more does not matter
more_digits : (q r s b : ℕ) (u : List ℕ) → is_digit b ≡ true → option_map over (number_of (q ∷ r ∷ s ∷ u)) ≡ option_map over (number_of (q ∷ r ∷ s ∷ b ∷ u))
unfolding number_of decimal_from
more_digits q r s b u d = grind (arith, nat_tests, over_from)

named_over : (c p : ℕ) (x y : List ℕ) → option_map over (number_of x) ≡ option_map over (number_of y) → option_map over (named c (p ∷ x)) ≡ option_map over (named c (p ∷ y))
unfolding named
named_over c p x y h = grind arith

one_more : (c : ℕ) (w : List ℕ) (b : ℕ) → length w ≤ name_held → (u : List ℕ) → option_map over (named c (name_with w b ++ u)) ≡ option_map over (named c (w ++ b ∷ u))
unfolding name_with
one_more c [] b h u = refl
one_more c (p ∷ []) b h u = refl
one_more c (p ∷ q ∷ []) b h u = refl
one_more c (p ∷ q ∷ r ∷ []) b h u = refl
one_more c (p ∷ q ∷ r ∷ s ∷ []) b h u =
    let broken : (run : List ℕ) → is_digit b ≡ false → number_of (run ++ b ∷ u) ≡ None = λ run d. not_number (run ++ b ∷ u) (all_broken is_digit run b u d) in
    grind (arith, more_digits q r s b u, broken (q ∷ r ∷ []), broken (q ∷ r ∷ s ∷ []), named_over c p)
one_more c (p ∷ q ∷ r ∷ s ∷ t ∷ w) b h u = absurd (omega (arith, h))

pub name_more : (names : Names) (w : List ℕ) (b : ℕ) → length w ≤ name_held → (u : List ℕ) → asked_with names (name_with w b ++ u) ≡ asked_with names (w ++ b ∷ u)
unfolding asked_with behind_comma with_event
name_more names w b h u = grind (arith, one_more 65 w b h u, one_more 69 w b h u, first_over, event_over)

pub few_more : (w : List ℕ) (b : ℕ) → length w ≤ name_held → length (name_with w b) ≤ name_held
unfolding name_with
few_more w b h = grind (arith, length-append, length-take)

-- ---- names split at their commas

front : List (List ℕ) → List ℕ
front [] = []
front (n ∷ ns) = n

later : List (List ℕ) → List (List ℕ)
later [] = []
later (n ∷ ns) = ns

prepend_is : (b : ℕ) (ns : List (List ℕ)) → prepend b ns ≡ (b ∷ front ns) ∷ later ns
unfolding prepend front later
prepend_is b [] = refl
prepend_is b (n ∷ ns) = refl

names_are : (u : List ℕ) → names_in u ≡ front (names_in u) ∷ later (names_in u)
unfolding names_in front later
names_are [] = refl
names_are (b ∷ u) = grind (arith, prepend_is)

-- a name with no comma begins the first of them
names_behind : (w u : List ℕ) → list_all in_name w ≡ true → names_in (w ++ u) ≡ (w ++ front (names_in u)) ∷ later (names_in u)
unfolding names_in prepend
names_behind [] u h = names_are u
names_behind (b ∷ w) u h = grind (arith, names_behind w u)

-- what a name and all behind it ask
asked_front : (names : Names) (w u : List ℕ) → list_all in_name w ≡ true → asked_in names (names_in (w ++ u)) ≡ fold behind_comma (asked_with names (w ++ front (names_in u))) (later (names_in u))
unfolding asked_in
asked_front names w u h = ap (asked_in names) (names_behind w u h)

pub asked_one : (names : Names) (w : List ℕ) → list_all in_name w ≡ true → asked_in names (names_in w) ≡ asked_with names w
unfolding names_in asked_with front later
asked_one names w h = ap (λ l. asked_in names (names_in l)) (sym (append-nil w)) ∙ asked_front names w [] h ∙ ap (asked_with names) (append-nil w)

pub asked_first : (names : List (List ℕ)) → asked_in Names.Nothing names ≡ asked_by names
unfolding asked_in asked_with asked_by
asked_first [] = refl
asked_first (n ∷ ns) = refl

-- ---- a byte more of a first word

-- a comma ends a name
comma_more : (names : Names) (w u : List ℕ) → list_all in_name w ≡ true → asked_in (Names.Ended (asked_with names w)) (names_in u) ≡ asked_in names (names_in (w ++ 44 ∷ u))
unfolding asked_in asked_with names_in front later
comma_more names w u h =
    ap (asked_in (Names.Ended (asked_with names w))) (names_are u) ∙ ap (fold behind_comma (asked_with names w)) (sym (names_are u))
    ∙ ap (λ n. fold behind_comma (asked_with names n) (names_in u)) (sym (append-nil w)) ∙ sym (asked_front names w (44 ∷ u) h)

all_take : (n : ℕ) (w : List ℕ) → list_all in_name w ≡ true → list_all in_name (take n w) ≡ true
all_take zero w h = refl
all_take (suc n) [] h = refl
all_take (suc n) (b ∷ w) h = grind (arith, all_take n w)

all_more : (w : List ℕ) (b : ℕ) → list_all in_name w ≡ true → in_name b ≡ true → list_all in_name (name_with w b) ≡ true
unfolding name_with
all_more w b h k = grind (arith, list_all-append, all_take)

-- what is open where further bytes come
pub record More (o : Open) (v : List ℕ) (o' : Open) : Type 0 where
  pub few : length o'.name ≤ name_held
  pub one : list_all in_name o'.name ≡ true
  pub asked : (u : List ℕ) → asked_in o'.names (names_in (o'.name ++ u)) ≡ asked_in o.names (names_in (o.name ++ (v ++ u)))
  pub begun : (u : List ℕ) → is_begun o'.names (o'.name ++ u) ≡ is_begun o.names (o.name ++ (v ++ u))

begun_some : (names : Names) (w u : List ℕ) (b : ℕ) → is_begun names (w ++ b ∷ u) ≡ true
begun_some Names.Nothing [] u b = refl
begun_some Names.Nothing (x ∷ w) u b = refl
begun_some (Names.Ended asked) w u b = refl

begun_more : (names : Names) (w u : List ℕ) (b : ℕ) → is_begun names (name_with w b ++ u) ≡ true
unfolding name_with
begun_more n w u b = grind arith

byte_more : (o : Open) (b : ℕ) → length o.name ≤ name_held → list_all in_name o.name ≡ true → in_word b ≡ true → More o (b ∷ []) (with_byte o b)
unfolding with_byte
byte_more o b h k w =
    elim (eqb b 44) as (λ x. eqb b 44 ≡ x → More o (b ∷ []) (cond x (record { names = Names.Ended (asked_with o.names o.name); name = [] }) (record { names = o.names; name = name_with o.name b }))) [
      | true ↦ λ e. record {
        few = omega arith;
        one = refl;
        asked = λ u. comma_more o.names o.name u k ∙ ap (λ c. asked_in o.names (names_in (o.name ++ c ∷ u))) (sym (eqb-true b 44 e));
        begun = λ u. sym (begun_some o.names o.name u b);
      }
      | false ↦ λ e. record {
        few = few_more o.name b h;
        one = all_more o.name b k (and_from _ _ w (ap not e));
        asked = λ u. asked_same u (and_from _ _ w (ap not e));
        begun = λ u. begun_more o.names o.name u b ∙ sym (begun_some o.names o.name u b);
      }
    ] refl
  where
    asked_same : (u : List ℕ) → in_name b ≡ true → asked_in o.names (names_in (name_with o.name b ++ u)) ≡ asked_in o.names (names_in (o.name ++ b ∷ u))
    asked_same u n =
        asked_front o.names (name_with o.name b) u (all_more o.name b k n)
        ∙ ap (λ a. fold behind_comma a (later (names_in u))) (name_more o.names o.name b h (front (names_in u)) ∙ ap (asked_with o.names) (sym (append_assoc o.name (b ∷ []) (front (names_in u)))))
        ∙ sym (asked_front o.names (o.name ++ b ∷ []) u (list_all-append in_name o.name (b ∷ []) ∙ and_from _ _ k (and_from _ _ n refl)))
        ∙ ap (λ l. asked_in o.names (names_in l)) (append_assoc o.name (b ∷ []) u)

pub word_more : (v : List ℕ) (o : Open) → length o.name ≤ name_held → list_all in_name o.name ≡ true → list_all in_word v ≡ true → More o v (fold with_byte o v)
word_more [] o h k p = record { few = h; one = k; asked = λ u. refl; begun = λ u. refl }
word_more (b ∷ v) o h k p =
    let (q, q') = and_parts (in_word b) (list_all in_word v) p in
    let n = byte_more o b h k q in
    let m = word_more v (with_byte o b) n.few n.one q' in
    record { few = m.few; one = m.one; asked = λ u. m.asked u ∙ n.asked (v ++ u); begun = λ u. m.begun u ∙ n.begun (v ++ u) }
