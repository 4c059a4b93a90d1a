-- Laws of scanning an epoch line, token by token, and of its judgement against the definition.
use Rattle.std.proofs.Common.{ℕ, ◌<◌, ◌≤◌, Bool, true, false, not, ◌||◌, cond, List, [], ◌∷◌, ◌≡◌, refl, ◌∙◌, arith, ℤ, pos, length, replicate, fold, Result, Ok, Err, Some, None, Option, option_map, eqb, ltb}
use Rattle.std.proofs.Math.Bool.{or-false}
use Rattle.policy.proofs.SeenLaws.{seen_repeats}
use Rattle.policy.specs.declared.epoch.Epoch.{Epoch}
use Rattle.policy.specs.Steps.Seen.{seen_in}
use Rattle.std.specs.List.{list_all, list_any}
use Rattle.policy.specs.Number.{set_limit}
use Rattle.policy.specs.Set.{no_events, no_readings}
use Rattle.policy.specs.Fault.{refusal}
use Rattle.policy.specs.declared.fault.Fault.{Fault}
use Rattle.policy.specs.declared.fault.Refusal.{Refusal}
use Rattle.lexer.proofs.LeadingLaws.{leading_ends, drop_shorter}
use Rattle.lexer.proofs.TokenLaws.{tokens_after_spaces, tokens_first}
use Rattle.lexer.specs.Byte.{is_space}
use Rattle.lexer.specs.Lines.{pieces, non_empty, tokens_of, take_leading, drop_leading, first_line}
use Rattle.lexer.specs.Number.{is_empty}
use Rattle.lexer.specs.Steps.Scan.{in_token, token_in, behind_token, without_spaces, tokens_in}
use Rattle.lexer.specs.Token.{Token, named, both}
use Rattle.token.proofs.PartLaws.{Parted}
use Rattle.token.specs.Steps.PartIn.{kept_before}
use Rattle.epoch_line.specs.Epoch.{Item, event, value, item_of, items_of, item_in_range, given_by, add_item, judge_epoch, epoch_limit, read_epoch, at_equals, assignment_of}
use Rattle.epoch_line.specs.Steps.EpochScan.{Found, item_in, Scanned, scanned, add_scanned, flagged, take_item, finish_read, items_read, epoch_from}

-- ---- a line end among bytes

has_end : List ℕ → Bool
has_end s = list_any (eqb 10) s

end_past : (p : ℕ → Bool) → ((b : ℕ) → p b ≡ true → eqb 10 b ≡ false) → (s : List ℕ) → has_end s ≡ has_end (drop_leading p s)
unfolding has_end
end_past p h [] = refl
end_past p h (b ∷ s) = grind (arith, end_past p h s)

-- where neither a space nor a token stands, and the line has not ended, there is a line end
end_here : (s : List ℕ) → take_leading is_space s ≡ [] → is_empty s ≡ false → is_empty (token_in s) ≡ true → has_end s ≡ true
unfolding has_end
end_here s h k l = grind arith

space_no_end : (b : ℕ) → is_space b ≡ true → eqb 10 b ≡ false
space_no_end b h = grind arith

inside_no_end : (b : ℕ) → in_token b ≡ true → eqb 10 b ≡ false
inside_no_end b h = grind arith

no_end : (s : List ℕ) → has_end s ≡ false → first_line s ≡ s
unfolding has_end
no_end [] e = refl
no_end (b ∷ s) e = grind (arith, no_end s)

-- ---- the judgement of all items against collecting them one by one

unfoldable closed : Bool → Bool → Epoch → Result Epoch Refusal
closed out_of_range twice e = cond out_of_range (Err (refusal Fault.EpochRange 0)) (cond twice (Err (refusal Fault.DuplicateReading 0)) (Ok e))

module _ (s : Scanned) (is : List Item) where
  abbrev after : Scanned → List Item → Result Epoch Refusal
  after s is = closed (s.out_of_range || not (list_all item_in_range is)) (s.twice || seen_in s.epoch.readings.given.bits (given_by is)) (fold add_item s.epoch is)

  one_more : (i : Item) → after (take_item s i) is ≡ after s (i ∷ is)
  unfolding take_item add_scanned closed seen_in given_by add_item
  one_more i = grind arith

collected : (s : Scanned) (is : List Item) → finish_read (fold take_item s is) ≡ closed (s.out_of_range || not (list_all item_in_range is)) (s.twice || seen_in s.epoch.readings.given.bits (given_by is)) (fold add_item s.epoch is)
unfolding finish_read closed seen_in given_by
collected s [] = grind (arith, or-false)
collected s (i ∷ is) = grind (arith, one_more, collected (take_item s i) is)

given_small : (is : List Item) → list_all item_in_range is ≡ true → list_all (λ (n : ℕ). ltb n set_limit) (given_by is) ≡ true
unfolding item_in_range given_by
given_small [] e = refl
given_small (event n ∷ is) e = grind (arith, given_small is)
given_small (value n k ∷ is) e = grind (arith, given_small is)

abbrev nothing : Scanned
nothing = scanned false false no_events no_readings (replicate 16 (pos 0))

judged : (o : Option (List Item)) → items_read nothing o ≡ judge_epoch o
unfolding items_read judge_epoch closed
judged None = refl
judged (Some is) = grind (arith, collected, seen_repeats, given_small)

-- the whole line
pub read_all : (line : List ℕ) → length line ≤ epoch_limit → epoch_from nothing line ≡ read_epoch line
unfolding epoch_from read_epoch has_end tokens_in
read_all line h = grind (arith, no_end, judged)

pub read_long : (line : List ℕ) → epoch_limit < length line → Err (refusal Fault.TooLong 0) ≡ read_epoch line
unfolding read_epoch
read_long line h = grind arith

-- ---- one token

item_token : (t : Token) (i : Item) → item_of t ≡ Some i → is_empty t ≡ false
unfolding item_of named assignment_of at_equals
item_token t i h = grind arith

item_first : (s : Scanned) (i : Item) (o : Option (List Item)) → items_read s (both ◌∷◌ (Some i) o) ≡ items_read (take_item s i) o
unfolding items_read both
item_first s i o = grind arith

-- ---- a turn of scanning

-- the answer behind the token in front
abbrev pub epoch_behind : Scanned → Found → Result Epoch Refusal
epoch_behind s None = Err (refusal Fault.EpochSyntax 0)
epoch_behind s (Some (None, rest)) = epoch_from (flagged s) rest
epoch_behind s (Some (Some i, rest)) = epoch_from (add_scanned s i) rest

module _ (s : Scanned) (line : List ℕ) where
  abbrev next : List ℕ
  next = without_spaces line

  read_skipped : epoch_from s line ≡ epoch_from s next
  unfolding epoch_from has_end
  read_skipped = grind (arith, end_past, space_no_end, tokens_after_spaces)

  read_taken : (i : Item) → item_of (token_in next) ≡ Some i → epoch_from s next ≡ epoch_from (take_item s i) (behind_token next)
  unfolding epoch_from has_end items_of
  read_taken i q = grind (arith, end_past, inside_no_end, tokens_first, item_token, item_first)

  read_malformed : is_empty next ≡ false → item_of (token_in next) ≡ None → epoch_from s next ≡ Err (refusal Fault.EpochSyntax 0)
  unfolding epoch_from items_of items_read both has_end
  read_malformed h q = grind (arith, end_here next (leading_ends is_space line) h, tokens_first next)

  item_taken : is_empty next ≡ false → (o : Option Item) → item_of (token_in next) ≡ o → epoch_from s next ≡ epoch_behind s (option_map (kept_before item_in_range (behind_token next)) o)
  unfolding take_item
  item_taken h None q = read_malformed h q
  item_taken h (Some i) q = grind (arith, read_taken i q)

  read_item : is_empty next ≡ false → epoch_from s line ≡ epoch_behind s (item_in next)
  unfolding item_in
  read_item h = read_skipped ∙ item_taken h (item_of (token_in next)) refl

empty_length : (s : List ℕ) → is_empty s ≡ eqb (length s) 0
empty_length s = grind arith

no_length : (s : List ℕ) → eqb (length s) 0 ≡ true → s ≡ []
no_length s e = grind (arith, empty_length s)

-- spaces were passed over
module _ (s : Scanned) (line front : List ℕ) (skipped : front ≡ without_spaces line) (ended : Bool) (e : ended ≡ eqb (length front) 0) where
  pub read_ended : ended ≡ true → epoch_from s line ≡ finish_read s
  unfolding epoch_from items_of items_read tokens_in tokens_of pieces non_empty
  read_ended h = grind (arith, read_skipped, no_length)

  pub read_turn : (f : Found) → f ≡ item_in front → ended ≡ false → epoch_from s line ≡ epoch_behind s f
  read_turn f q h = grind (arith, read_item, empty_length)

-- what an item says: a token was passed over, and a reading exists
module _ (line front : List ℕ) (skipped : front ≡ without_spaces line) (m : Option Item) (rest : List ℕ) (q : Some (m, rest) ≡ item_in front) where
  part : Parted Item item_in_range (behind_token front) (item_of (token_in front)) m rest
  unfolding item_in
  part = grind arith

  token_shorter : (t : List ℕ) → is_empty (token_in t) ≡ false → length (behind_token t) < length t
  token_shorter [] h = cc
  token_shorter (b ∷ t) h = grind (arith, drop_shorter in_token t)

  pub item_shorter : length rest < length line
  item_shorter = grind (arith, token_shorter, item_token, part, drop_shorter)

  pub reading_small : (n : ℕ) (k : ℤ) → m ≡ Some (value n k) → n < 16
  unfolding item_in_range
  reading_small n k h = grind (arith, part)
