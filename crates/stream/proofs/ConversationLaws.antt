-- How a conversation goes on and ends.
use Rattle.std.proofs.Common.{◌≡◌, ◌+◌, ◌<◌, inl, inr, arith, ℕ, List, [], ◌++◌, length, take, refl, sym, ap, append-nil, length-append, subst, IfSome, rules}
use Rattle.std.specs.Io.{StartsWith}
use Rattle.std.specs.Io.KnownBytes.{IsAtEnd}
use Rattle.std.specs.declared.io.Error.{Error}
use Rattle.std.proofs.KnownBytes.{Consumes-whole}
use Rattle.stream.specs.declared.failure.Failure.{Failure}
use Rattle.stream.specs.declared.failure.Failure.TheVariants.{Read, Write}
use Rattle.stream.specs.Event.{came, GoOn, StopsAt, Fails, EndsBehind}
use Rattle.stream.specs.Machine.{Goes, Known, Reads, Sends, Talks, AnswersAll, ReadFails, EndsBy, nothing_due, ListingEndsBy, IsWriteFailure}
use Rattle.stream.proofs.EventLaws.{go_on_append, go_on_event, stops_behind, fails_behind, ends_behind, brings_none, brings_last}
use Rattle.stream.proofs.KnownLaws.{reads_end, talks_nil, talks_read, talks_send}
use Rattle.stream.proofs.MachineLaws.{goes_refl, goes_trans, goes_emptied, starts_behind, starts_take}

-- From `a` to `b` a machine took what was read, what is due for it was written, nothing waits, and each call so far went on.
pub record Underway {S : Type 0} (given printed : S → List ℕ → List ℕ) (a : S) (old : Known) (turns : ℕ) (b : S) (now : Known) : Type 0 where
  pub bytes : List ℕ
  pub goes : Goes given printed a b bytes (given a bytes)
  pub empty : given b [] ≡ []
  pub talk : Talks (given a) (GoOn turns) old now bytes (given a bytes)

module _ {S : Type 0} (given printed : S → List ℕ → List ℕ) where
  pub begins : (a : S) (old : Known) → given a [] ≡ [] → Underway given printed a old 0 a old
  begins a old empty = record { bytes = []; goes = rw empty (goes_refl given printed a); empty = empty; talk = rw empty (talks_nil (given a) old) }

  module _ {a b : S} {old k : Known} {turns : ℕ} (u : Underway given printed a old turns b k) where
    -- a chunk was read
    talks_chunk : {mid : Known} {chunk : List ℕ} → Reads (StopsAt (came chunk)) k mid chunk → 0 < length chunk
        → Talks (given a) (GoOn (turns + 1)) old mid (u.bytes ++ chunk) (given a u.bytes)
    talks_chunk {chunk = chunk} read some =
        talks_read (λ es fs p q. go_on_append turns 1 _ es fs (omega arith) p (go_on_event (came chunk) fs q some))
        refl refl u.talk read (brings_last read.events chunk read.came read.ended)

    -- and what is due for it was sent
    pub goes_on : {mid new : Known} {chunk : List ℕ} (c : S) → Reads (StopsAt (came chunk)) k mid chunk → 0 < length chunk → Goes given printed b c chunk (given b chunk)
        → Sends (GoOn 0) mid new (given b chunk) → Underway given printed a old (turns + 1) c new
    goes_on {chunk = chunk} c read some goes sent = record {
      bytes = u.bytes ++ chunk;
      goes = rw (u.goes.at_once chunk) (goes_trans given printed a b c u.bytes chunk (given a u.bytes) (given b chunk) u.goes goes);
      empty = goes_emptied given printed b c chunk goes;
      talk = talks_send (λ es fs p w q. go_on_append (turns + 1) 0 _ es fs (omega arith) p q) (sym (u.goes.at_once chunk)) (talks_chunk read some) sent;
    }

    -- or a front of it
    pub write_fails : {mid new : Known} {chunk : List ℕ} (e : Error) (text : List ℕ) → Reads (StopsAt (came chunk)) k mid chunk → 0 < length chunk
        → 0 < length (given b chunk) → Sends (Fails (Write e)) mid new text → StartsWith (given b chunk) text → StartsWith (printed b chunk) text
        → EndsBy (Write e) (given a) (printed a) old new
    write_fails {chunk = chunk} e text read long some sent owed front = inl (record {
      bytes = u.bytes ++ chunk;
      text = given a u.bytes ++ text;
      talk = talks_send (λ es fs p w q. fails_behind (Write e) es fs p.0 q) refl (talks_chunk read long) sent;
      some = omega (arith, some, ap length (u.goes.at_once chunk), length-append (given a u.bytes) (given b chunk));
      owed = starts_behind given a b (given a u.bytes) u.bytes text chunk u.goes.at_once owed;
      front = starts_behind printed a b (given a u.bytes) u.bytes text chunk u.goes.in_all front;
    })

    -- a read failed
    pub read_fails : {new : Known} (e : Error) → Reads (Fails (Read e)) k new [] → ReadFails e (given a) old new
    read_fails e read = record {
      bytes = u.bytes;
      talk = (talks_read (λ es fs p q. fails_behind (Read e) es fs p.0 q) (append-nil u.bytes) refl u.talk read (brings_none read.events read.came));
    }

    module _ {mid : Known} (n : ℕ) (buffer : List ℕ) (none : n ≡ 0) (last : Reads (StopsAt (came (take n buffer))) k mid (take n buffer)) (end : IsAtEnd mid.unread) where
      -- the end was read
      talked : Talks (given a) (StopsAt (came [])) old mid u.bytes (given a u.bytes)
      talked =
          let read = reads_end n buffer none last in
          talks_read (λ es fs p q. stops_behind (came []) es fs p.0 q) (append-nil u.bytes) refl u.talk read (brings_last read.events [] read.came read.ended)

      -- and all that the machine prints there was sent
      pub answers_all : {new : Known} → Sends (GoOn 0) mid new (printed b []) → AnswersAll (printed a) (given a) old new
      answers_all {new = new} sent =
          let answer : given a u.bytes ++ printed b [] ≡ printed a u.bytes = cc (u.goes.in_all [], append-nil u.bytes) in
          let talk : Talks (given a) (EndsBehind (GoOn 0)) old new u.bytes (printed a u.bytes) = talks_send (ends_behind (GoOn 0)) answer talked sent in
          let whole : IfSome old.unread (λ xs. xs ≡ u.bytes) = Consumes-whole old.unread mid.unread u.bytes (λ xs. xs ≡ u.bytes) talked.unread end refl in
          search rules

      -- or a front of it
      pub last_fails : {new : Known} (e : Failure) → IsWriteFailure e × ((m : ℕ) × Sends (Fails e) mid new (take m (printed b []))) → EndsBy e (given a) (printed a) old new
      last_fails (Read e) w = absurd w.0
      last_fails (Write e) (w, (m, sent)) = inr (record {
        bytes = u.bytes;
        text = given a u.bytes ++ take m (printed b []);
        whole = Consumes-whole old.unread mid.unread u.bytes (λ xs. xs ≡ u.bytes) talked.unread end refl;
        talk = talks_send (ends_behind (Fails (Write e))) refl talked sent;
        front = rw append-nil at (starts_behind printed a b (given a u.bytes) u.bytes _ [] u.goes.in_all (starts_take (printed b []) m));
      })

-- ---- the same in other words

module _ {answer answer' due due' : List ℕ → List ℕ} (old new : Known) (same_answer : (bytes : List ℕ) → answer bytes ≡ answer' bytes)
    (same_due : (bytes : List ℕ) → due bytes ≡ due' bytes) where
  other_words : (P : (answer due : List ℕ → List ℕ) → Type 0) → P answer due → P answer' due'
  other_words P h = subst (P answer') (λ i. λ bytes. same_due bytes i) (subst (λ a. P a due) (λ i. λ bytes. same_answer bytes i) h)

  pub answers_same : AnswersAll answer due old new → AnswersAll answer' due' old new
  answers_same = other_words (λ a d. AnswersAll a d old new)

  pub ends_same : (e : Failure) → EndsBy e due answer old new → EndsBy e due' answer' old new
  ends_same e = other_words (λ a d. EndsBy e d a old new)

-- where nothing is due before the end, no write fails there
pub listing_ends : (e : Failure) (answer : List ℕ → List ℕ) (old new : Known) → EndsBy e nothing_due answer old new → ListingEndsBy e answer old new
listing_ends e answer old new h = grind arith
