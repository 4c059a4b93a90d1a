-- Laws of the list of a set's actions, and of the loop that puts it.
use Rattle.std.proofs.Common.{◌≡◌, add-one, ℕ, suc, ◌+◌, ◌-◌, ◌<◌, ◌≤◌, Bool, true, false, List, [], ◌∷◌, arith}
use Rattle.policy.specs.Set.{has, members_from}
use Rattle.report.specs.Report.{further_names, action_names}

-- the members from n on
abbrev pub members : ℕ → ℕ → List ℕ
members s n = members_from (64 - n) n s

pub members_has : (s n : ℕ) → n < 64 → has s n ≡ true → members s n ≡ n ∷ members s (n + 1)
unfolding members_from
members_has s n h e = let f : 64 - n ≡ suc (64 - (n + 1)) = omega arith in rw (f, e, add-one)

pub members_lacks : (s n : ℕ) → n < 64 → has s n ≡ false → members s n ≡ members s (n + 1)
unfolding members_from
members_lacks s n h e = let f : 64 - n ≡ suc (64 - (n + 1)) = omega arith in rw (f, e, add-one)

pub members_over : (s n : ℕ) → 64 ≤ n → members s n ≡ []
unfolding members_from
members_over s n h = let e : 64 - n ≡ 0 = omega arith in rw e

-- the names of those that are left
unfoldable pub remaining : Bool → List ℕ → List ℕ
remaining true ns = action_names ns
remaining false ns = further_names ns

pub ruleset member_laws = (members_has, members_lacks, members_over)
