-- What the sinks are after some bytes.
use Rattle.std.proofs.Common.{◌≡◌, ℕ, suc, ◌+◌, ◌-◌, ◌^◌, ◌≤◌, ◌<◌, List, [], ◌∷◌, ◌++◌, length, get_or, set, drop, ap, ◌∙◌, arith, length-set, drop-cons, drop_of_length-le}
use Rattle.std.proofs.lemmas.Grind.{common_steps}
use Rattle.std.proofs.lemmas.List.{take_rest}
use Rattle.output.specs.Buffer.{appended, behind}
use Rattle.output.specs.Sink.{fed, fed-join, advanced, counted, stored, fed-none}
use Rattle.output.specs.declared.counter.Counter.{Counter}
use Rattle.output.specs.declared.page.Page.{Page}
use Rattle.output.proofs.AppendLaws.{Put, append_out}

advanced-suc : (from by limit : ℕ) → advanced (advanced from 1 limit) by limit ≡ advanced from (suc by) limit
advanced-suc from by limit = grind arith

-- a counter has counted the bytes
pub counted_all : (counter : Counter) (bytes : List ℕ) → fed counted counter bytes ≡ record { count = advanced counter.count (length bytes) (2 ^ 64 - 1) }
unfolding fed
counted_all counter [] = grind arith
counted_all counter (b ∷ bs) = grind (arith, advanced-suc, counted_all (counted counter b) bs)

-- ---- a page

abbrev pub page_of : Page → List ℕ → ℕ → Page
page_of page buffer end = record page { bytes = record page.bytes { now = buffer }; end = end }

-- a page past its end takes nothing, so it doesn't matter how far past
append-advanced : (buffer : List ℕ) (at : ℕ) (bytes : List ℕ) → appended buffer (advanced at 1 (length buffer)) bytes ≡ appended buffer (suc at) bytes
append-advanced buffer at bytes = grind (arith, append_out)

-- a page has the bytes appended to it
pub stored_all : (page : Page) (bytes : List ℕ)
    → fed stored page bytes ≡ page_of page (appended page.bytes.now page.end bytes) (advanced page.end (length bytes) (length page.bytes.now))
unfolding fed appended
stored_all page [] = grind arith
stored_all page (b ∷ bs) = grind (arith, length-set, append-advanced, advanced-suc, stored_all (stored page b) bs)

-- the buffer of a page and where it ends, once bytes were put on it
pub page_put : (page after : Page) (bytes : List ℕ) → after ≡ fed stored page bytes → page.end ≤ length page.bytes.now → Put page.bytes.now page.end bytes after.bytes.now after.end
unfolding behind
page_put page after bytes e h = grind (arith, stored_all)

-- ---- the loop of a page

pub step_room : (out bytes : List ℕ) (end i : ℕ) → i < length bytes
    → appended (set out end (get_or bytes i 0)) (end + 1) (drop (i + 1) bytes) ≡ appended out end (drop i bytes)
unfolding appended
step_room out bytes end i h = grind (arith, drop-cons)

pub step_full : (out bytes : List ℕ) (end i : ℕ) → i < length bytes → length out ≤ end → appended out end (drop (i + 1) bytes) ≡ appended out end (drop i bytes)
step_full out bytes end i h full = grind (arith, append_out)

append-end : (buffer : List ℕ) (at : ℕ) (rest : List ℕ) → rest ≡ [] → buffer ≡ appended buffer at rest
unfolding appended
append-end buffer at rest h = grind arith

pub page_end : (page : Page) (bytes out : List ℕ) (end i : ℕ) → length bytes ≤ i
    → appended out end (drop i bytes) ≡ appended page.bytes.now page.end bytes
    → advanced end (length bytes - i) (length out) ≡ advanced page.end (length bytes) (length page.bytes.now)
    → page_of page out end ≡ fed stored page bytes
page_end page bytes out end i h holds reached = grind (arith, append-end, drop_of_length-le, stored_all)

-- ---- any sink

-- bytes and then others
pub fed_then : {S : Type 0} (taken : S → ℕ → S) (sink : S) {between after : S} (first second : List ℕ)
    → between ≡ fed taken sink first → after ≡ fed taken between second → after ≡ fed taken sink (first ++ second)
fed_then taken sink first second e f = f ∙ ap (λ s. fed taken s second) e ∙ fed-join taken sink first second

-- what is put one after another, an element of a list at a time
pub ruleset put_laws = (common_steps, take_rest, fed-none, fed-join)
