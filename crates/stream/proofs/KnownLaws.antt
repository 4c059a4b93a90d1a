-- Laws of what was read, of what was sent, and of both.
use Rattle.std.proofs.Common.{◌≡◌, ℕ, List, [], ◌∷◌, ◌++◌, All, take, refl, subst, append-nil, rules, arith}
use Rattle.std.specs.Io.KnownBytes.{Appends, Consumes, Keeps}
use Rattle.std.proofs.KnownBytes.{Appends-trans, Appends-kept, Consumes-trans, Consumes-kept, Keeps-trans}
use Rattle.std.proofs.lemmas.List.Elements.{All-nil, All-cons, All-append}
use Rattle.stream.specs.Event.{Event, came, Logs, came_in, went_out, IsRead, IsWrite, IsPrompt, GoesOn, GoOn, StopsAt}
use Rattle.stream.specs.Machine.{Known, Reads, Sends, Talks}
use Rattle.stream.proofs.EventLaws.{logs_trans, came_in_append, went_out_append, writes_in, BringsLast, reads_out, prompt_reads, prompt_writes}

-- calls that end so, and behind them calls that end so, end so
abbrev pub Joins : (first then both : List Event → Type 0) → Type 0
Joins first then both = (es fs : List Event) → first es → then fs → both (es ++ fs)

alone : (event : Event) → StopsAt event (event ∷ [])
alone event = ([], refl, All-nil GoesOn)

pub reads_call : {a b : Known} (event : Event) (bytes : List ℕ) → IsRead event → came_in (event ∷ []) ≡ bytes → Consumes a.unread b.unread bytes → Keeps a.held b.held
    → Logs a.history b.history (event ∷ []) → Reads (StopsAt event) a b bytes
reads_call event bytes r is u h l = search (rules, alone, All-cons, All-nil)

pub reads_trans : {first then both : List Event → Type 0} {a b c : Known} {bytes more all : List ℕ} → Joins first then both → bytes ++ more ≡ all
    → Reads first a b bytes → Reads then b c more → Reads both a c all
reads_trans {a = a} {b = b} {c = c} {bytes = bytes} {more = more} {all = all} join is p q =
    let unread = subst (Consumes a.unread c.unread) is (Consumes-trans a.unread b.unread c.unread bytes more p.unread q.unread) in
    let came : came_in (p.events ++ q.events) ≡ all = cc (came_in_append p.events q.events) in
    search (rules, join p.events q.events, Keeps-trans a.held b.held c.held, logs_trans a.history b.history c.history p.events q.events, All-append)

-- a read that gave nothing
pub reads_end : {a b : Known} (n : ℕ) (buffer : List ℕ) → n ≡ 0 → Reads (StopsAt (came (take n buffer))) a b (take n buffer) → Reads (StopsAt (came [])) a b []
reads_end {a = a} {b = b} n buffer none read = subst (λ (m : ℕ). Reads (StopsAt (came (take m buffer))) a b (take m buffer)) none read

pub sends_call : {a b : Known} (event : Event) (text : List ℕ) → IsWrite event → went_out (event ∷ []) ≡ text → Appends a.held b.held text → Keeps a.unread b.unread
    → Logs a.history b.history (event ∷ []) → Sends (StopsAt event) a b text
sends_call event text w is h u l = search (rules, alone, All-cons, All-nil)

pub sends_trans : {first then both : List Event → Type 0} {a b c : Known} {text more all : List ℕ} → Joins first then both → text ++ more ≡ all
    → Sends first a b text → Sends then b c more → Sends both a c all
sends_trans {a = a} {b = b} {c = c} {text = text} {more = more} {all = all} join is p q =
    let held = subst (Appends a.held c.held) is (Appends-trans a.held b.held c.held text more p.held q.held) in
    let went : went_out (p.events ++ q.events) ≡ all = cc (went_out_append p.events q.events) in
    search (rules, join p.events q.events, Keeps-trans a.unread b.unread c.unread, logs_trans a.history b.history c.history p.events q.events, All-append)

none_called : (due : List ℕ → List ℕ) → IsPrompt due []
none_called due [] call after e r = absurd cc
none_called due (x ∷ before) call after e r = absurd cc

pub talks_nil : (due : List ℕ → List ℕ) (a : Known) → Talks due (GoOn 0) a a [] []
talks_nil due a = search (rules, arith, none_called due)

-- all that was due had been written when more was read
pub talks_read : {due : List ℕ → List ℕ} {first then both : List Event → Type 0} {a b c : Known} {bytes text more all : List ℕ} → Joins first then both
    → bytes ++ more ≡ all → text ≡ due bytes → Talks due first a b bytes text → (q : Reads then b c more) → BringsLast q.events → Talks due both a c all text
talks_read {due = due} {a = a} {b = b} {c = c} {bytes = bytes} {text = text} {more = more} {all = all} join is gone p q last =
    let unread = subst (Consumes a.unread c.unread) is (Consumes-trans a.unread b.unread c.unread bytes more p.unread q.unread) in
    let came : came_in (p.events ++ q.events) ≡ all = cc (came_in_append p.events q.events) in
    let went : went_out (p.events ++ q.events) ≡ text = cc (went_out_append p.events q.events, reads_out q.events q.reads, append-nil (went_out p.events)) in
    let prompt = prompt_reads due p.events q.events p.prompt (cc) q.reads last in
    search (rules, join p.events q.events, Appends-kept a.held b.held c.held, logs_trans a.history b.history c.history p.events q.events)

pub talks_send : {due : List ℕ → List ℕ} {first then both : List Event → Type 0} {a b c : Known} {bytes text more all : List ℕ}
    → ((es fs : List Event) → first es → All IsWrite fs → then fs → both (es ++ fs))
    → text ++ more ≡ all → Talks due first a b bytes text → Sends then b c more → Talks due both a c bytes all
talks_send {due = due} {a = a} {b = b} {c = c} {bytes = bytes} {text = text} {more = more} {all = all} join is p q =
    let held = subst (Appends a.held c.held) is (Appends-trans a.held b.held c.held text more p.held q.held) in
    let came : came_in (p.events ++ q.events) ≡ bytes = cc (came_in_append p.events q.events, writes_in q.events q.writes, append-nil (came_in p.events)) in
    let went : went_out (p.events ++ q.events) ≡ all = cc (went_out_append p.events q.events) in
    let prompt = prompt_writes due p.events q.events p.prompt q.writes in
    search (rules, join p.events q.events, Consumes-kept a.unread b.unread c.unread, logs_trans a.history b.history c.history p.events q.events)
