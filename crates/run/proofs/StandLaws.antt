-- All lines: how far a trial of one action more has come, and where the lines stand when it is kept.
use Rattle.std.proofs.Common.{ℕ, zero, suc, ◌+◌, ◌-◌, ◌/◌, ◌^◌, ◌≤◌, ◌<◌, Bool, true, false, ◌⊎◌, List, ◌≢◌, ◌≡◌, refl, sym, ap, ◌∙◌, subst, arith, eq-eqb, get_or, set, length, length-set, get_or-set_same, get_or-set_other, replicate, eqb, w64}
use Rattle.std.proofs.Math.Path.{fun_ext}
use Rattle.std.proofs.lemmas.Grind.{get_or-set_at}
use Rattle.std.proofs.lemmas.List.{get_or-replicate, get_or_past, length-replicate}
use Rattle.std.specs.Int.{trailing_zeros}
use Rattle.policy.specs.declared.epoch.Readings.{Readings}
use Rattle.policy.specs.Set.{ActionSet, has, insert, set_of, no_actions}
use Rattle.policy.proofs.SetLaws.{has_insert_same, has_insert_old, has_insert_cases, has_insert_other, has_empty, others_next, none_left, first_there, none_before}
use Rattle.operation.proofs.WholeLaws.{OnLines}
use Rattle.policy.specs.declared.line.Part.{Part}
use Rattle.run.proofs.FetchLaws.{trial_fetches_few}
use Rattle.run.proofs.RunLaws.{ran_end}
use Rattle.run.proofs.WaitLaws.{goes_none, goes_then, goes_ends}
use Rattle.run.specs.Run.{fetches, up_to, run_constraints, trial_fetches}
use Rattle.run.specs.Steps.Wait.{Within, waits_for, waits_after, noted, Goes, Ends, LineTo, Stands, Told, Reaches, waits_in, fetched, Lines, Standing, no_lines}
use Rattle.run.specs.declared.reach.Stop.{Stop}
use Rattle.run.specs.declared.reach.Reached.{Reached}
use Rattle.run.specs.declared.waiting.Waiting.{Waiting}

-- what holds of one index, and of every other, holds of all
at_each : {P : ℕ → Type 0} (n : ℕ) → P n → ((i : ℕ) → i ≢ n → P i) → (i : ℕ) → P i
at_each n here other i = grind arith

-- ---- a larger set

module _ {rs : Readings} {ws : List ℕ} where
  -- a line that waits for no action of the larger set stands there too
  stands_more : {s t : ActionSet} {start behind end : ℕ} {waits waits' : ℕ → Bool} → Within s t → ((a : ℕ) → waits a ≡ waits' a) → ((a : ℕ) → waits a ≡ true → has t.bits a ≡ false)
      → Stands rs ws s start behind end waits → Stands rs ws t start behind end waits'
  stands_more sub same out l = grind arith

  -- a line that waits for an action of it, and was run on from there
  stands_then : {s t : ActionSet} {start mid behind end : ℕ} (a : ℕ) {waits waits' : ℕ → Bool} → Within s t → has t.bits a ≡ true → waits a ≡ true → Stands rs ws s start mid end waits
      → Stands rs ws t mid behind end waits' → Stands rs ws t start behind end waits'
  stands_then a sub h w l r = grind arith

  -- what a run answers that did not come to the end of the constraint
  pub told_stands : {s : ActionSet} {from end : ℕ} {r : Reached} → Reaches rs ws s from end r → (r.stop ≡ Stop.Holds → ⊥) → Stands rs ws s from r.behind end (waits_for r.stop)
  unfolding Told
  told_stands h k = grind arith

  told_ends : {s : ActionSet} {from end : ℕ} {r : Reached} → Reaches rs ws s from end r → r.stop ≡ Stop.Holds → Ends rs ws s from (r.behind - from)
  unfolding Told
  told_ends {s} {from} {end} {r} h e = (subst (Told rs ws s from r.behind end) e h.told) s (λ a p. p)

-- ---- how many words

pub fetched_next : (starts behind : List ℕ) (n : ℕ) → fetched starts behind (n + 1) ≡ fetched starts behind n + (get_or behind n 0 - get_or starts n 0)
unfolding fetched
fetched_next starts behind n = let next : n + 1 ≡ suc n = omega arith in ap (fetched starts behind) next

pub fetched_grows : (starts behind : List ℕ) (d n m : ℕ) → m ≡ n + d → fetched starts behind n ≤ fetched starts behind m
fetched_grows starts behind zero n m e = let same : m ≡ n = omega arith in omega (arith, ap (fetched starts behind) same)
fetched_grows starts behind (suc d) n m e = omega (arith, fetched_grows starts behind d (n + 1) m (omega arith), fetched_next starts behind n)

fetched_same : (starts starts' behind behind' : List ℕ) (n : ℕ) → ((i : ℕ) → i < n → get_or starts' i 0 ≡ get_or starts i 0) → ((i : ℕ) → i < n → get_or behind' i 0 ≡ get_or behind i 0)
    → fetched starts' behind' n ≡ fetched starts behind n
unfolding fetched
fetched_same starts starts' behind behind' zero p q = refl
fetched_same starts starts' behind behind' (suc n) p q = grind (arith, fetched_same starts starts' behind behind' n)

-- ---- a trial over the lines

module _ (rs : Readings) (ws : List ℕ) (t : ActionSet) (starts behind : List ℕ) where
  -- it leaves a line where it stands
  abbrev Left : ℕ → Type 0
  Left i = Goes rs ws t (get_or starts i 0) (get_or starts (i + 1) 0) (get_or behind i 0 - get_or starts i 0)

  -- it goes from a line to another, after so many words
  record Sums (n m : ℕ) : Type 0 where
    words : ℕ
    goes : Goes rs ws t (get_or starts n 0) (get_or starts m 0) words
    sum : words + fetched starts behind n ≡ fetched starts behind m

  over : (d n m : ℕ) → m ≡ n + d → ((i : ℕ) → n ≤ i → i < m → Left i) → Sums n m
  over zero n m e each = let same : m ≡ n = omega arith in rw same (record { words = 0; goes = goes_none _; sum = omega arith })
  over (suc d) n m e each =
      let first = each n (omega arith) (omega arith) in
      let rest = over d (n + 1) m (omega arith) (λ i h k. each i (omega arith) k) in
      record { words = _; goes = goes_then first rest.goes _ refl; sum = omega (arith, rest.sum, fetched_next starts behind n) }

  from_first : {n m : ℕ} (way : Sums 0 n) → get_or starts 0 0 ≡ 0 → get_or starts n 0 ≡ m → Goes rs ws t 0 m way.words
  from_first way e f = rw (e, f) at way.goes

module _ {rs : Readings} {ws : List ℕ} {t : ActionSet} where
  left_there : {start behind end : ℕ} {waits : ℕ → Bool} → Stands rs ws t start behind end waits → Goes rs ws t start end (behind - start)
  left_there l = l.left t (λ a p. p) l.lacks

  at_end : {n words : ℕ} → length ws ≤ n → Goes rs ws t 0 n words → (run_constraints rs t ws ≡ false) × (trial_fetches rs t ws ≡ words)
  unfolding run_constraints trial_fetches fetches up_to
  at_end past g = grind (arith, ran_end)

  ends_trial : {words : ℕ} → Ends rs ws t 0 words → (run_constraints rs t ws ≡ true) × (trial_fetches rs t ws ≡ words)
  unfolding run_constraints trial_fetches
  ends_trial e = (e.holds, e.words)

  -- what is known to be fetched is what a trial of the set fetches
  lines_sum : (starts behind : List ℕ) {waits : List ℕ} (count : ℕ) → Lines rs ws t starts behind waits count → length ws ≤ get_or starts count 0 → trial_fetches rs t ws ≡ fetched starts behind count
  unfolding fetched
  lines_sum starts behind count l past =
      let way = over rs ws t starts behind count 0 count (omega arith) (λ i h k. left_there (l.line i k)) in
      omega (arith, (at_end past (from_first rs ws t starts behind way l.first refl)).1, way.sum)

-- ---- one action more than what is kept

module _ (rs : Readings) (ws : List ℕ) (kept : ActionSet) (a : ℕ) (t : ActionSet) (w : Waiting) where
  pub record Adding : Type 0 where
    pub standing : Standing rs ws kept w
    pub small : get_or w.waits a 0 < 2 ^ 64
    pub short : (n : ℕ) → get_or w.starts n 0 < 65536
    pub sub : Within kept t
    pub has_it : has t.bits a ≡ true
    pub cases : (b : ℕ) → has t.bits b ≡ true → (b ≡ a) ⊎ (has kept.bits b ≡ true)

  -- of the lines that wait for the action, those from line n on are left
  pub record At (left n : ℕ) : Type 0 where
    pub adding : Adding
    pub others : left ≡ get_or w.waits a 0 / 2 ^ n
    pub within : n ≤ w.count
    pub few : left ≢ 0 → n + trailing_zeros w64 left < 64

  -- and line n is one of them
  pub record AtLine (left n : ℕ) : Type 0 where
    pub at : At left n
    pub waiting : waits_in w.waits n a ≡ true
    pub inside : n < w.count
    pub line : LineTo ws (get_or w.behind n 0) (get_or w.starts (n + 1) 0)
    pub short : get_or w.starts (n + 1) 0 < 65536

  -- the trial is at line n: what is fetched so far, and behind it if the others stay
  pub record Trying (left n now : ℕ) : Type 0 where
    pub at : At left n
    pub words : ℕ
    pub goes : Goes rs ws t 0 (get_or w.starts n 0) words
    pub sum : now + fetched w.starts w.behind n ≡ words + fetched w.starts w.behind w.count
    pub short : length ws < 8192

  -- and line n waits for the action
  pub record TryingLine (left n now : ℕ) : Type 0 where
    pub trying : Trying left n now
    pub line : AtLine left n
    pub starts_before : (i : ℕ) → i < n → get_or w.starts i 0 ≤ get_or w.behind i 0
    pub few : now ≤ 16384
    pub few_before : fetched w.starts w.behind n ≤ 8192

  -- what is kept along the way, where the trial of the set showed that no constraint holds
  pub record Kept (v : Waiting) : Type 0 where
    pub free : run_constraints rs t ws ≡ false
    pub starts_same : v.starts ≡ w.starts
    pub count_same : v.count ≡ w.count
    pub behind_size : length v.behind ≡ 64
    pub waits_size : length v.waits ≡ 64
    pub only : (i b : ℕ) → waits_in v.waits i b ≡ true → i < w.count

  -- the lines under n, and those that do not wait for the action, stand on the larger set, and the others as before
  pub record Keeping (v : Waiting) (left n : ℕ) : Type 0 where
    pub at : At left n
    pub state : Kept v
    pub done : (i : ℕ) → i < w.count → (n ≤ i → waits_in w.waits i a ≡ false) → Stands rs ws t (get_or w.starts i 0) (get_or v.behind i 0) (get_or w.starts (i + 1) 0) (waits_in v.waits i)
    pub todo : (i : ℕ) → n ≤ i → waits_in w.waits i a ≡ true → (get_or v.behind i 0 ≡ get_or w.behind i 0) × ((c : ℕ) → waits_in v.waits i c ≡ false)

pub adds : {rs : Readings} {ws : List ℕ} {kept : ActionSet} {a : ℕ} {t : ActionSet} {w : Waiting} → Standing rs ws kept w → a < 64 → get_or w.waits a 0 < 2 ^ 64 → ((n : ℕ) → get_or w.starts n 0 < 65536) → t ≡ set_of (insert kept.bits a)
    → Adding rs ws kept a t w
adds {kept} {a} st under small short e = rw e (record { standing = st; small = small; short = short; sub = has_insert_old kept.bits a; has_it = has_insert_same kept.bits a under; cases = has_insert_cases kept.bits a })

module _ {rs : Readings} {ws : List ℕ} {kept : ActionSet} {a : ℕ} {t : ActionSet} {w : Waiting} where
  -- a line that does not wait for the action waits for none of the set
  waits_not : Adding rs ws kept a t w → (i : ℕ) → i < w.count → waits_in w.waits i a ≡ false → (b : ℕ) → waits_in w.waits i b ≡ true → has t.bits b ≡ false
  waits_not ad i h off b q = let lacks = (ad.standing.lines.line i h).lacks b q in grind (arith, ad.cases b)

  stays : Adding rs ws kept a t w → (i : ℕ) → i < w.count → waits_in w.waits i a ≡ false → Left rs ws t w.starts w.behind i
  stays ad i h off = (ad.standing.lines.line i h).left t ad.sub (waits_not ad i h off)

  module _ (left n : ℕ) (ad : Adding rs ws kept a t w) (others : left ≡ get_or w.waits a 0 / 2 ^ n) where
    left_small : left < 2 ^ 64
    left_small = omega (arith, others, ad.small)

    line_inside : left ≢ 0 → n + trailing_zeros w64 left < w.count
    line_inside some = ad.standing.lines.only _ a (first_there (get_or w.waits a 0) n left others some left_small)

    lines_left : n ≤ w.count → At rs ws kept a t w left n
    lines_left within = record { adding = ad; others = others; within = within; few = λ some. omega (arith, line_inside some, ad.standing.lines.few) }

  module _ {left n : ℕ} (y : At rs ws kept a t w left n) (some : left ≢ 0) where
    off_before : (i : ℕ) → n ≤ i → i < n + trailing_zeros w64 left → waits_in w.waits i a ≡ false
    off_before = none_before (get_or w.waits a 0) n left y.others some (left_small left n y.adding y.others)

    pub to_line : AtLine rs ws kept a t w (left / 2 ^ trailing_zeros w64 left) (n + trailing_zeros w64 left)
    to_line =
        let there = first_there (get_or w.waits a 0) n left y.others some (left_small left n y.adding y.others) in
        let inside = line_inside left n y.adding y.others some in
        record {
          at = lines_left _ _ y.adding (others_next (get_or w.waits a 0) n left y.others (trailing_zeros w64 left)) (omega arith);
          waiting = there;
          inside = inside;
          line = (y.adding.standing.lines.line _ inside).onward a there;
          short = y.adding.short _;
        }

  behind_line : {left n : ℕ} → AtLine rs ws kept a t w left n → At rs ws kept a t w (left / 2) (n + 1)
  behind_line {left} {n} l = lines_left _ _ l.at.adding (others_next (get_or w.waits a 0) n left l.at.others 1) (omega (arith, l.inside))

  -- ---- its trial

  pub tries_first : Adding rs ws kept a t w → length ws < 8192 → Trying rs ws kept a t w (get_or w.waits a 0) 0 w.all
  unfolding fetched
  tries_first ad short = record {
    at = lines_left _ _ ad (omega arith) (omega arith);
    words = 0;
    goes = rw ad.standing.lines.first (goes_none 0);
    sum = omega (arith, ad.standing.all);
    short = short;
  }

  pub tries_line : {left n now : ℕ} → Trying rs ws kept a t w left n now → left ≢ 0 → TryingLine rs ws kept a t w (left / 2 ^ trailing_zeros w64 left) (n + trailing_zeros w64 left) now
  unfolding trial_fetches
  tries_line {left} {n} y some =
      let l = to_line y.at some in
      let st = y.at.adding.standing in
      let way = over rs ws t w.starts w.behind (trailing_zeros w64 left) n _ refl (λ i h k. stays y.at.adding i (omega (arith, k, l.inside)) (off_before y.at some i h k)) in
      let goes = goes_then y.goes way.goes _ refl in
      let all = lines_sum w.starts w.behind w.count st.lines st.last in
      let grows = fetched_grows w.starts w.behind (w.count - (n + trailing_zeros w64 left)) (n + trailing_zeros w64 left) w.count (omega (arith, l.inside)) in
      let kept_few = trial_fetches_few rs ws kept in
      record {
        trying = record { at = l.at; words = _; goes = goes; sum = omega (arith, y.sum, way.sum); short = y.short };
        line = l;
        starts_before = λ i h. (st.lines.line i (omega (arith, l.inside))).forward;
        few = omega (arith, y.sum, way.sum, goes.words, trial_fetches_few rs ws t, y.short);
        few_before = omega (arith, y.short);
      }

  -- no line that is left waits for it
  pub tries_last : {left n now : ℕ} → Trying rs ws kept a t w left n now → left ≡ 0 → (run_constraints rs t ws ≡ false) × (trial_fetches rs t ws ≡ now)
  tries_last {left} {n} y z =
      let way = over rs ws t w.starts w.behind (w.count - n) n w.count (omega (arith, y.at.within)) (λ i h k. stays y.at.adding i k (none_left (get_or w.waits a 0) n left y.at.others z i h)) in
      let end = at_end y.at.adding.standing.last (goes_then y.goes way.goes _ refl) in
      (end.0, omega (arith, end.1, y.sum, way.sum))

  module _ {left m now : ℕ} (at : TryingLine rs ws kept a t w left m now) {r : Reached} (h : Reaches rs ws t (get_or w.behind m 0) (get_or w.starts (m + 1) 0) r) where
    abbrev stood : Stands rs ws kept (get_or w.starts m 0) (get_or w.behind m 0) (get_or w.starts (m + 1) 0) (waits_in w.waits m)
    stood = at.line.at.adding.standing.lines.line m at.line.inside

    to_behind : Goes rs ws t (get_or w.starts m 0) (get_or w.behind m 0) (get_or w.behind m 0 - get_or w.starts m 0)
    to_behind = stood.passed t at.line.at.adding.sub a at.line.waiting at.line.at.adding.has_it

    pub tries_behind : (r.stop ≡ Stop.Holds → ⊥) → Trying rs ws kept a t w (left / 2) (m + 1) (now + (r.behind - get_or w.behind m 0))
    tries_behind none =
        let y = at.trying in
        let line = goes_then to_behind (left_there (told_stands h none)) _ refl in
        record { at = behind_line at.line; words = _; goes = goes_then y.goes line _ refl; sum = omega (arith, y.sum, fetched_next w.starts w.behind m, stood.forward, h.forward); short = y.short }

    -- the trial ends there, and no more was counted than there is
    pub tries_holds : r.stop ≡ Stop.Holds
        → (run_constraints rs t ws ≡ true) × (trial_fetches rs t ws + w.all ≡ now + fetched w.starts w.behind m + (r.behind - get_or w.starts m 0)) × (get_or w.starts m 0 ≤ r.behind)
    tries_holds e =
        let trial = ends_trial (goes_ends at.trying.goes (goes_ends to_behind (told_ends h e) _ refl) _ refl) in
        (trial.0, omega (arith, trial.1, at.trying.sum, at.line.at.adding.standing.all, stood.forward, h.forward), omega (arith, stood.forward, h.forward))

-- ---- a line more that was left

module _ (waits : List ℕ) (b m : ℕ) (inside : b < length waits) where
  one_more_other : (i c : ℕ) → i ≢ m → waits_in (set waits b (insert (get_or waits b 0) m)) i c ≡ waits_in waits i c
  one_more_other i c n = grind (arith, at_each, get_or-set_same, has_insert_other, get_or-set_other)

  one_more_here : m < 64 → ((c : ℕ) → waits_in waits m c ≡ false) → (c : ℕ) → waits_in (set waits b (insert (get_or waits b 0) m)) m c ≡ eqb b c
  one_more_here few none c = grind (arith, get_or-set_at, get_or-set_other, has_insert_same, none)

-- the other lines wait as before
after_other : (stop : Stop) (m : ℕ) (waits : List ℕ) → length waits ≡ 64 → ((a : ℕ) → waits_for stop a ≡ true → a < 64) → (i c : ℕ) → i ≢ m → waits_in (waits_after stop m waits) i c ≡ waits_in waits i c
unfolding waits_after waits_for
after_other (Stop.Lacks b) m waits size under i c n = one_more_other waits b.0 m (omega (arith, under b.0 (eq-eqb b.0 b.0 refl))) i c n
after_other Stop.Fails m waits size under i c n = refl
after_other Stop.Holds m waits size under i c n = refl

-- it waits for what it stopped at
after_here : (stop : Stop) (m : ℕ) (waits : List ℕ) → length waits ≡ 64 → ((a : ℕ) → waits_for stop a ≡ true → a < 64) → m < 64 → ((c : ℕ) → waits_in waits m c ≡ false)
    → (c : ℕ) → waits_in (waits_after stop m waits) m c ≡ waits_for stop c
unfolding waits_after waits_for
after_here (Stop.Lacks b) m waits size under few none = one_more_here waits b.0 m (omega (arith, under b.0 (eq-eqb b.0 b.0 refl))) few none
after_here Stop.Fails m waits size under few none = none
after_here Stop.Holds m waits size under few none = none

after_size : (stop : Stop) (m : ℕ) (waits : List ℕ) → length waits ≡ 64 → length (waits_after stop m waits) ≡ 64
unfolding waits_after
after_size stop m waits size = grind (arith, length-set {A = ℕ})

-- ---- what is kept, line by line

module _ {rs : Readings} {ws : List ℕ} {kept : ActionSet} {a : ℕ} {t : ActionSet} {w : Waiting} where
  pub keeps_first : Adding rs ws kept a t w → a < 64 → run_constraints rs t ws ≡ false → length w.behind ≡ 64 → length w.waits ≡ 64
      → Keeping rs ws kept a t w (record { starts = w.starts; behind = w.behind; waits = set w.waits a 0; count = w.count; all = w.all }) (get_or w.waits a 0) 0
  keeps_first ad under free p q = record {
    at = lines_left _ _ ad (omega arith) (omega arith);
    state = record {
      free = free;
      starts_same = refl;
      count_same = refl;
      behind_size = p;
      waits_size = length-set w.waits a 0 ∙ q;
      only = λ i. at_each a (λ e. absurd cc (none i)) (λ c o e. ad.standing.lines.only i c (sym (others i c o) ∙ e));
    };
    done = λ i k off. stands_more ad.sub (at_each a (off (omega arith) ∙ sym (none i)) (λ c o. sym (others i c o))) (waits_not ad i k (off (omega arith))) (ad.standing.lines.line i k);
    todo = λ i h waiting. (refl, at_each a (none i) (λ c o. others i c o ∙ alone i waiting c o));
  }
    where
      none : (i : ℕ) → waits_in (set w.waits a 0) i a ≡ false
      none i = rw (get_or-set_same w.waits a 0 0 (omega (arith, q, under))) (has_empty i)

      others : (i c : ℕ) → c ≢ a → waits_in (set w.waits a 0) i c ≡ waits_in w.waits i c
      others i c o = rw (get_or-set_other w.waits a c 0 0 o) refl

      alone : (i : ℕ) → waits_in w.waits i a ≡ true → (c : ℕ) → c ≢ a → waits_in w.waits i c ≡ false
      alone i waiting c o = grind (arith, (ad.standing.lines.line i (ad.standing.lines.only i a waiting)).one c a)

  pub keeps_line : {v : Waiting} {left n : ℕ} → Keeping rs ws kept a t w v left n → left ≢ 0 → Keeping rs ws kept a t w v (left / 2 ^ trailing_zeros w64 left) (n + trailing_zeros w64 left)
  keeps_line {v} {left} {n} y some = record { at = (to_line y.at some).at; state = y.state; done = λ i k off. y.done i k (between i off); todo = λ i h. y.todo i (omega arith) }
    where
      between : (i : ℕ) → (n + trailing_zeros w64 left ≤ i → waits_in w.waits i a ≡ false) → n ≤ i → waits_in w.waits i a ≡ false
      between i off h = grind (arith, off_before y.at some i h, off)

  module _ {v : Waiting} {left n : ℕ} (y : Keeping rs ws kept a t w v left n) where
    pub keeps_all : left ≡ 0 → (all : ℕ) → all ≡ trial_fetches rs t ws → Standing rs ws t (record { starts = v.starts; behind = v.behind; waits = v.waits; count = v.count; all = all })
    keeps_all z all e =
        let st = y.at.adding.standing in
        let lines : Lines rs ws t w.starts v.behind v.waits w.count = record { few = st.lines.few; first = st.lines.first; line = λ i h. y.done i h (none_left (get_or w.waits a 0) n left y.at.others z i); only = y.state.only } in
        rw (y.state.starts_same, y.state.count_same) (record { lines = lines; last = st.last; all = e ∙ lines_sum w.starts v.behind w.count lines st.last })

    -- the line n waits for it
    module _ (l : AtLine rs ws kept a t w left n) where
      pub keeps_to : LineTo ws (get_or v.behind n 0) (get_or v.starts (n + 1) 0)
      keeps_to = rw ((y.todo n (omega arith) l.waiting).0, y.state.starts_same) l.line

      module _ {r : Reached} (reached : Reaches rs ws t (get_or v.behind n 0) (get_or v.starts (n + 1) 0) r) where
        h : Reaches rs ws t (get_or w.behind n 0) (get_or w.starts (n + 1) 0) r
        h = rw ((y.todo n (omega arith) l.waiting).0, y.state.starts_same) at reached

        -- no constraint holds on the larger set, so the line does not either
        keeps_free : r.stop ≡ Stop.Holds → ⊥
        keeps_free e =
            let ad = y.at.adding in
            let way = over rs ws t w.starts v.behind n 0 n (omega arith) (λ i q k. left_there (y.done i (omega (arith, k, l.inside)) (λ o. absurd (omega arith)))) in
            let line = goes_ends ((ad.standing.lines.line n l.inside).passed t ad.sub a l.waiting ad.has_it) (told_ends h e) _ refl in
            let holds = (ends_trial (goes_ends (from_first rs ws t w.starts v.behind way ad.standing.lines.first refl) line _ refl)).0 in
            absurd (cc y.state.free)

        pub keeps_stands : Stands rs ws t (get_or w.behind n 0) r.behind (get_or w.starts (n + 1) 0) (waits_for r.stop)
        keeps_stands = told_stands h keeps_free

        pub keeps_next : Keeping rs ws kept a t w (noted v n r) (left / 2) (n + 1)
        keeps_next = record {
          at = behind_line l;
          state = record {
            free = y.state.free;
            starts_same = y.state.starts_same;
            count_same = y.state.count_same;
            behind_size = length-set v.behind n r.behind ∙ y.state.behind_size;
            waits_size = after_size r.stop n v.waits y.state.waits_size;
            only = at_each n (λ c e. l.inside) (λ i o c e. y.state.only i c (sym (after_other r.stop n v.waits y.state.waits_size stands.under i c o) ∙ e));
          };
          done = at_each n (λ k off. here) (λ i o k off. other i o (y.done i k (λ q. off (omega arith))));
          todo = λ i q waiting. let o : i ≢ n = λ p. omega (arith, p) in let old = y.todo i (omega arith) waiting in
              (get_or-set_other v.behind n i r.behind 0 o ∙ old.0, λ c. after_other r.stop n v.waits y.state.waits_size stands.under i c o ∙ old.1 c);
        }
          where
            stands : Stands rs ws t (get_or w.behind n 0) r.behind (get_or w.starts (n + 1) 0) (waits_for r.stop)
            stands = keeps_stands

            here : Stands rs ws t (get_or w.starts n 0) (get_or (set v.behind n r.behind) n 0) (get_or w.starts (n + 1) 0) (waits_in (waits_after r.stop n v.waits) n)
            here =
                let ad = y.at.adding in
                let few : n < 64 = omega (arith, l.inside, ad.standing.lines.few) in
                rw (get_or-set_same v.behind n r.behind 0 (omega (arith, few, y.state.behind_size)), fun_ext (after_here r.stop n v.waits y.state.waits_size stands.under few (y.todo n (omega arith) l.waiting).1))
                (stands_then a ad.sub ad.has_it l.waiting (ad.standing.lines.line n l.inside) stands)

            other : (i : ℕ) → i ≢ n → Stands rs ws t (get_or w.starts i 0) (get_or v.behind i 0) (get_or w.starts (i + 1) 0) (waits_in v.waits i)
                → Stands rs ws t (get_or w.starts i 0) (get_or (set v.behind n r.behind) i 0) (get_or w.starts (i + 1) 0) (waits_in (waits_after r.stop n v.waits) i)
            other i o l = rw (get_or-set_other v.behind n i r.behind 0 o, fun_ext (λ c. after_other r.stop n v.waits y.state.waits_size stands.under i c o)) l

-- ---- the lines put up one after another

module _ (rs : Readings) (ws : List ℕ) where
  -- the lines before an index stand, and there another begins
  pub record Setting (v : Waiting) (at : ℕ) : Type 0 where
    pub lines : Lines rs ws no_actions v.starts v.behind v.waits v.count
    pub here : get_or v.starts v.count 0 ≡ at
    pub on : OnLines Part.Constraints ws at
    pub sum : v.all ≡ fetched v.starts v.behind v.count
    pub small : v.all ≤ at
    pub starts_size : length v.starts ≡ 65
    pub behind_size : length v.behind ≡ 64
    pub waits_size : length v.waits ≡ 64

module _ {rs : Readings} {ws : List ℕ} where
  pub setting_first : OnLines Part.Constraints ws 0 → Setting rs ws no_lines 0
  unfolding fetched
  setting_first on = record {
    lines = record { few = omega arith; first = get_or-replicate {A = ℕ} 65 0 0 0 (omega arith); line = λ n h. absurd (omega arith); only = λ n a h. absurd (cc (empty n a)) };
    here = get_or-replicate {A = ℕ} 65 0 0 0 (omega arith);
    on = on;
    sum = refl;
    small = omega arith;
    starts_size = length-replicate {A = ℕ} 65 0;
    behind_size = length-replicate {A = ℕ} 64 0;
    waits_size = length-replicate {A = ℕ} 64 0;
  }
    where
      empty : (n a : ℕ) → waits_in (replicate 64 0) n a ≡ false
      empty n a = grind (arith, has_empty n, get_or-replicate {A = ℕ} 64 a 0 0, get_or_past {X = ℕ} (replicate 64 0) a 0, length-replicate {A = ℕ} 64 0)

  module _ {v : Waiting} {at end : ℕ} (y : Setting rs ws v at) {r : Reached} (h : Reaches rs ws no_actions at end r) where
    -- a line that holds with no action
    pub setting_holds : r.stop ≡ Stop.Holds → run_constraints rs no_actions ws ≡ true
    setting_holds e =
        let way = over rs ws no_actions v.starts v.behind v.count 0 v.count (omega arith) (λ i q k. left_there (y.lines.line i k)) in
        (ends_trial (goes_ends (from_first rs ws no_actions v.starts v.behind way y.lines.first y.here) (told_ends h e) _ refl)).0

    module _ (room : v.count < 64) (on : OnLines Part.Constraints ws end) (none : r.stop ≡ Stop.Holds → ⊥) where
      stands : Stands rs ws no_actions at r.behind end (waits_for r.stop)
      stands = told_stands h none

      abbrev starts' : List ℕ
      starts' = set v.starts (v.count + 1) end

      abbrev behind' : List ℕ
      behind' = set v.behind v.count r.behind

      start_kept : (i : ℕ) → i ≤ v.count → get_or starts' i 0 ≡ get_or v.starts i 0
      start_kept i k = get_or-set_other v.starts (v.count + 1) i end 0 (λ p. omega (arith, p, k))

      behind_kept : (i : ℕ) → i < v.count → get_or behind' i 0 ≡ get_or v.behind i 0
      behind_kept i k = get_or-set_other v.behind v.count i r.behind 0 (λ p. omega (arith, p, k))

      last : get_or starts' (v.count + 1) 0 ≡ end
      last = get_or-set_same v.starts (v.count + 1) end 0 (omega (arith, room, y.starts_size))

      starts_there : get_or starts' v.count 0 ≡ at
      starts_there = start_kept v.count (omega arith) ∙ y.here

      ends_there : get_or behind' v.count 0 ≡ r.behind
      ends_there = get_or-set_same v.behind v.count r.behind 0 (omega (arith, room, y.behind_size))

      here : Stands rs ws no_actions (get_or starts' v.count 0) (get_or behind' v.count 0) (get_or starts' (v.count + 1) 0) (waits_in (waits_after r.stop v.count v.waits) v.count)
      here = grind (arith, starts_there, ends_there, last, fun_ext, after_here, stands)

      other : (i : ℕ) → i ≢ v.count → i < v.count → Stands rs ws no_actions (get_or starts' i 0) (get_or behind' i 0) (get_or starts' (i + 1) 0) (waits_in (waits_after r.stop v.count v.waits) i)
      other i o k = rw (start_kept i (omega arith), behind_kept i k, start_kept (i + 1) (omega arith), fun_ext (λ c. after_other r.stop v.count v.waits y.waits_size stands.under i c o)) (y.lines.line i k)

      pub setting_next : (u : Waiting) → u ≡ record { starts = set v.starts (v.count + 1) end; behind = set v.behind v.count r.behind; waits = waits_after r.stop v.count v.waits; count = v.count + 1; all = v.all + (r.behind - at) } → Setting rs ws u end
      setting_next u e = rw e (record {
        lines = record {
          few = omega (arith, room);
          first = start_kept 0 (omega arith) ∙ y.lines.first;
          line = at_each v.count (λ k. here) (λ i o k. other i o (omega arith));
          only = at_each v.count (λ c e. omega arith) (λ i o c e. let q = y.lines.only i c (sym (after_other r.stop v.count v.waits y.waits_size stands.under i c o) ∙ e) in omega arith);
        };
        here = last;
        on = on;
        sum = omega (arith, y.sum, fetched_next starts' behind' v.count, ends_there, starts_there, fetched_same v.starts starts' v.behind behind' v.count (λ i k. start_kept i (omega arith)) behind_kept);
        small = omega (arith, y.small, h.within, h.forward);
        starts_size = length-set v.starts (v.count + 1) end ∙ y.starts_size;
        behind_size = length-set v.behind v.count r.behind ∙ y.behind_size;
        waits_size = after_size r.stop v.count v.waits y.waits_size;
      })

  pub setting_last : {v : Waiting} {at : ℕ} → Setting rs ws v at → length ws ≤ at → Standing rs ws no_actions v
  setting_last y h = record { lines = y.lines; last = omega (arith, h, y.here); all = y.sum }
