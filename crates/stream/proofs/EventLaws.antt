-- Laws of histories, and of how calls end.
use Rattle.std.proofs.Common.{◌≡◌, ◌+◌, ◌≤◌, ◌⊎◌, inl, inr, ℕ, List, [], ◌∷◌, ◌++◌, All, length, take, drop, refl, sym, ap, ◌∙◌, subst, append_assoc, append-nil, length-append, Option, arith}
use Rattle.std.proofs.lemmas.List.{append_cancel_right, nil_from_length}
use Rattle.std.proofs.lemmas.List.Elements.{All-head, All-tail, All-append, All-push, All-take, All-drop}
use Rattle.std.proofs.Math.Seq.{take-append_seam, drop-append_seam}
use Rattle.stream.specs.declared.failure.Failure.{Failure}
use Rattle.stream.specs.Event.{Event, came, Logs, came_in, went_out, IsRead, IsWrite, IsPrompt, GoesOn, GoOn, StopsAt, Fails, EndsBehind}

pub logs_trans : (a b c : Option (List Event)) (es fs : List Event) → Logs a b es → Logs b c fs → Logs a c (es ++ fs)
logs_trans a b c es fs p q = grind (arith, append_assoc)

pub came_in_append : (es fs : List Event) → came_in (es ++ fs) ≡ came_in es ++ came_in fs
came_in_append [] fs = refl
came_in_append (x ∷ es) fs = grind (arith, append_assoc, came_in_append es fs)

pub went_out_append : (es fs : List Event) → went_out (es ++ fs) ≡ went_out es ++ went_out fs
went_out_append [] fs = refl
went_out_append (x ∷ es) fs = grind (arith, append_assoc, went_out_append es fs)

pub reads_out : (es : List Event) → All IsRead es → went_out es ≡ []
reads_out [] h = refl
reads_out (x ∷ es) h = grind (arith, All-head IsRead x es h, reads_out es (All-tail IsRead x es h))

pub writes_in : (es : List Event) → All IsWrite es → came_in es ≡ []
writes_in [] h = refl
writes_in (x ∷ es) h = grind (arith, All-head IsWrite x es h, writes_in es (All-tail IsWrite x es h))

-- ---- at each read all that is due had gone

-- a call of two histories, one behind the other, is one of the first or of the second
call_of : (es fs before : List Event) (call : Event) (after : List Event) → es ++ fs ≡ before ++ call ∷ after
    → ((rest : List Event) × (es ≡ before ++ call ∷ rest)) ⊎ ((more : List Event) × (before ≡ es ++ more) × (fs ≡ more ++ call ∷ after))
call_of [] fs before call after e = inr (before, refl, e)
call_of (x ∷ es) fs [] call after e = inl (es, cc)
call_of (x ∷ es) fs (y ∷ before) call after e = grind (arith, call_of es fs before call after)

prompt_then : (due : List ℕ → List ℕ) (es fs : List Event) → IsPrompt due es
    → ((more : List Event) (call : Event) (after : List Event) → fs ≡ more ++ call ∷ after → IsRead call → went_out (es ++ more) ≡ due (came_in (es ++ more)))
    → IsPrompt due (es ++ fs)
prompt_then due es fs p q before call after e r = grind (arith, call_of)

-- what holds of each call holds of those before one, and of that one
all_before : (P : Event → Type 0) (es more : List Event) (call : Event) (after : List Event) → es ≡ more ++ call ∷ after → All P es → All P more × P call
all_before P es more call after e h = (
  subst (All P) (ap (take (length more)) e ∙ take-append_seam more (call ∷ after)) (All-take P (length more) es h),
  All-head P call after (subst (All P) (ap (drop (length more)) e ∙ drop-append_seam more (call ∷ after)) (All-drop P (length more) es h)),
)

one_side : (call : Event) → IsRead call → IsWrite call → ⊥
one_side call r w = grind arith

pub prompt_writes : (due : List ℕ → List ℕ) (es fs : List Event) → IsPrompt due es → All IsWrite fs → IsPrompt due (es ++ fs)
prompt_writes due es fs p w = prompt_then due es fs p (λ more call after e r. absurd (one_side call r (all_before IsWrite fs more call after e w).1))

-- before the last one of these calls nothing came
abbrev pub BringsLast : List Event → Type 0
BringsLast es = (more : List Event) (call : Event) (after : List Event) → es ≡ more ++ call ∷ after → came_in more ≡ []

pub prompt_reads : (due : List ℕ → List ℕ) (es fs : List Event) → IsPrompt due es → went_out es ≡ due (came_in es) → All IsRead fs → BringsLast fs → IsPrompt due (es ++ fs)
prompt_reads due es fs p gone reads last =
    prompt_then due es fs p
    (λ more call after e r.
    let quiet = reads_out more (all_before IsRead fs more call after e reads).0 in
    cc (went_out_append es more, came_in_append es more, append-nil (went_out es), append-nil (came_in es), last more call after e))

pub front_nil : (xs ys : List ℕ) → xs ++ ys ≡ [] → xs ≡ []
front_nil xs ys e = nil_from_length xs (omega (arith, simp length-append at (ap length e)))

pub brings_none : (es : List Event) → came_in es ≡ [] → BringsLast es
brings_none es none more call after e = front_nil (came_in more) (came_in (call ∷ after)) (sym (came_in_append more (call ∷ after)) ∙ ap came_in (sym e) ∙ none)

pub brings_last : (es : List Event) (bytes : List ℕ) → came_in es ≡ bytes → StopsAt (came bytes) es → BringsLast es
brings_last es bytes all (tries, stops, goes) more call after e =
    let none : came_in tries ≡ [] = append_cancel_right (came_in tries) [] bytes (cc (came_in_append tries (came bytes ∷ []), append-nil bytes)) in
    elim (call_of tries (came bytes ∷ []) more call after (sym stops ∙ e)) [
      | inl (rest, is) ↦ brings_none tries none more call rest is
      | inr (behind, is, one) ↦ rw (is, nil_from_length behind (omega (arith, simp length-append at (ap length one))), append-nil tries) none
    ]

-- ---- how calls end

pub go_on_append : (m n k : ℕ) (es fs : List Event) → k ≤ m + n → GoOn m es → GoOn n fs → GoOn k (es ++ fs)
go_on_append m n k es fs some (p, l) (q, o) = (All-append GoesOn es fs p q, omega (arith, length-append es fs))

pub go_on_event : (event : Event) (es : List Event) → StopsAt event es → GoesOn event → GoOn 1 es
go_on_event event es (before, is, goes) some = rw is (All-push GoesOn before event goes some, omega (arith, length-append before (event ∷ [])))

pub stops_behind : (last : Event) (es fs : List Event) → All GoesOn es → StopsAt last fs → StopsAt last (es ++ fs)
stops_behind last es fs g (before, is, goes) =
    (es ++ before, ap (λ l. es ++ l) is ∙ sym (append_assoc es before (last ∷ [])), All-append GoesOn es before g goes)

pub fails_behind : (failure : Failure) (es fs : List Event) → All GoesOn es → Fails failure fs → Fails failure (es ++ fs)
fails_behind failure es fs g (inl (last, told, stops)) = inl (last, told, stops_behind last es fs g stops)
fails_behind failure es fs g (inr (goes, late)) = inr (go_on_append 0 _ _ es fs (omega arith) (g, omega arith) goes, late)

pub ends_behind : (ends : List Event → Type 0) (es fs : List Event) → StopsAt (came []) es → All IsWrite fs → ends fs → EndsBehind ends (es ++ fs)
ends_behind ends es fs h w e = grind (arith, append_assoc)
