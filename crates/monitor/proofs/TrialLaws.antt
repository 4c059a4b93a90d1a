-- Trying candidates bit by bit, from the lowest on, until none is left: actions in the first mode, events in the second.
use Rattle.std.proofs.Common.{ℕ, zero, suc, ◌+◌, ◌-◌, ◌*◌, ◌/◌, ◌^◌, ◌≤◌, ◌<◌, Bool, true, false, cond, ◌≢◌, ◌≡◌, refl, sym, ◌∙◌, add-zero, arith, w64}
use Rattle.std.specs.Int.{trailing_zeros}
use Rattle.pdl.proofs.CostLaws.{cost_below_limit}
use Rattle.pdl.specs.Greedy.{try_next, kept_below, greedy, cost_below, trials_cost}
use Rattle.policy.specs.Set.{has, insert}
use Rattle.policy.proofs.SetLaws.{has_limit, others_next, none_left, first_there, none_before}

module _ (bad : ℕ → Bool) (cost : ℕ → ℕ) (candidates : ℕ) where
  -- the candidates under n were tried, at the cost `spent`, and `left` are the others, with n as bit 0
  pub record Tried (kept spent left n : ℕ) : Type 0 where
    pub small : candidates < 2 ^ 64
    pub cheap : (s : ℕ) → cost s ≤ 8192
    pub others : left ≡ candidates / 2 ^ n
    pub limit : n ≤ 64
    pub so_far : kept ≡ kept_below bad candidates n
    pub costs : spent ≡ cost_below bad cost candidates n
    pub room : left ≢ 0 → n + trailing_zeros w64 left < 64
    pub few : spent ≤ n * 8192

  -- and n is the next of them
  pub record Next (kept spent left n : ℕ) : Type 0 where
    pub tried : Tried kept spent left n
    pub one : has candidates n ≡ true
    pub room : n < 64

  -- numbers that are no candidates are passed over
  skipped : (d n m : ℕ) → m ≡ n + d → ((i : ℕ) → n ≤ i → i < m → has candidates i ≡ false)
      → (kept_below bad candidates m ≡ kept_below bad candidates n) × (cost_below bad cost candidates m ≡ cost_below bad cost candidates n)
  unfolding kept_below cost_below try_next
  skipped zero n m e none = let same : m ≡ n = omega arith in rw same (refl, refl)
  skipped (suc d) n m e none =
      let next : m ≡ suc (n + d) = omega arith in
      let before = skipped d n (n + d) refl (λ i h k. none i h (omega arith)) in
      rw (next, none (n + d) (omega arith) (omega arith)) (before.0, add-zero _ ∙ before.1)

module _ {bad : ℕ → Bool} {cost : ℕ → ℕ} {candidates : ℕ} where
  tried : {kept spent left n : ℕ} → candidates < 2 ^ 64 → ((s : ℕ) → cost s ≤ 8192) → left ≡ candidates / 2 ^ n → n ≤ 64 → kept ≡ kept_below bad candidates n → spent ≡ cost_below bad cost candidates n
      → Tried bad cost candidates kept spent left n
  tried {left} {n} small cheap others limit so_far costs = record {
    small = small;
    cheap = cheap;
    others = others;
    limit = limit;
    so_far = so_far;
    costs = costs;
    room = λ some. has_limit candidates small _ (first_there candidates n left others some (omega (arith, others)));
    few = omega (arith, costs, cost_below_limit bad cost candidates 8192 cheap n);
  }

  pub tried_none : candidates < 2 ^ 64 → ((s : ℕ) → cost s ≤ 8192) → Tried bad cost candidates 0 0 candidates 0
  unfolding kept_below cost_below
  tried_none small cheap = tried small cheap (omega arith) (omega arith) refl refl

  pub next_candidate : {kept spent left n : ℕ} → Tried bad cost candidates kept spent left n → left ≢ 0 → Next bad cost candidates kept spent (left / 2 ^ trailing_zeros w64 left) (n + trailing_zeros w64 left)
  next_candidate {kept} {spent} {left} {n} t some =
      let under : left < 2 ^ 64 = omega (arith, t.others, t.small) in
      let same = skipped bad cost candidates (trailing_zeros w64 left) n _ refl (none_before candidates n left t.others some under) in
      let room = t.room some in
      record {
        tried = tried t.small t.cheap (others_next candidates n left t.others (trailing_zeros w64 left)) (omega arith) (t.so_far ∙ sym same.0) (t.costs ∙ sym same.1);
        one = first_there candidates n left t.others some under;
        room = room;
      }

  -- the trial of n says b, for so much
  pub trial_turn : {kept spent left n : ℕ} → Next bad cost candidates kept spent left n → (b : Bool) → b ≡ bad (insert kept n) → {words kept' spent' : ℕ} → words ≡ cost (insert kept n)
      → kept' ≡ cond b kept (insert kept n) → spent' ≡ spent + words → Tried bad cost candidates kept' spent' (left / 2) (n + 1)
  unfolding kept_below cost_below try_next
  trial_turn {kept} {spent} {left} {n} x b says {words} {kept'} {spent'} w e c =
      let next : n + 1 ≡ suc n = omega arith in
      let k : kept' ≡ kept_below bad candidates (n + 1) = rw next (grind (arith, x.tried.so_far, x.one)) in
      let s : spent' ≡ cost_below bad cost candidates (n + 1) = rw next (grind (arith, x.tried.so_far, x.tried.costs, x.one)) in
      tried x.tried.small x.tried.cheap (others_next candidates n left x.tried.others 1) (omega (arith, x.room)) k s

  -- none is left
  pub tried_all : {kept spent left n : ℕ} → Tried bad cost candidates kept spent left n → left ≡ 0 → (kept ≡ greedy bad candidates) × (spent ≡ trials_cost bad cost candidates)
  unfolding greedy trials_cost
  tried_all {left} {n} t z =
      let same = skipped bad cost candidates (64 - n) n 64 (omega (arith, t.limit)) (λ i h k. none_left candidates n left t.others z i h) in
      (t.so_far ∙ sym same.0, t.costs ∙ sym same.1)
