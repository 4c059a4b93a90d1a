-- What each line of a constraint part waits for, while a set of actions grows.
use Rattle.std.specs.Prelude.{ℕ, zero, suc, ◌+◌, ◌-◌, ◌≤◌, ◌<◌, Bool, true, false, List, drop, replicate, set, length, ◌≡◌, ◌==◌, slice_index_or}
use Rattle.std.specs.List.{list_any}
use Rattle.policy.specs.declared.epoch.Readings.{Readings}
use Rattle.policy.specs.declared.line.Part.{Part}
use Rattle.policy.specs.Set.{ActionSet, has, insert, no_actions}
use Rattle.operation.specs.Whole.{whole_from}
use Rattle.run.specs.Run.{ran, constraint_test, ends_constraint, fetches, up_to}
use Rattle.run.specs.declared.reach.Stop.{Stop}
use Rattle.run.specs.declared.reach.Reached.{Reached}
use Rattle.run.specs.declared.waiting.Waiting.{Waiting}

-- every action of one set is in the other
abbrev pub Within : ActionSet → ActionSet → Type 0
Within s t = (a : ℕ) → has s.bits a ≡ true → has t.bits a ≡ true

-- the actions that a line waits for which stopped so: one or none
unfoldable pub waits_for : Stop → ℕ → Bool
waits_for (Stop.Lacks a) b = a.0 == b
waits_for _ b = false

-- a word of a line that ends before an index
pub record LineTo (ws : List ℕ) (at end : ℕ) : Type 0 where
  pub some : at < end
  pub whole : whole_from Part.Constraints 0 (end - at) (drop at ws) ≡ true

-- ---- all lines

-- whether a line waits for an action: the lines that wait for it are a set of numbers
abbrev pub waits_in : List ℕ → ℕ → ℕ → Bool
waits_in waits line a = has (slice_index_or waits a 0) line

-- how many words were fetched in the first lines
unfoldable pub fetched : List ℕ → List ℕ → ℕ → ℕ
fetched starts behind zero = 0
fetched starts behind (suc n) = fetched starts behind n + (slice_index_or behind n 0 - slice_index_or starts n 0)

-- the sets of waiting lines, where a line was left so
unfoldable pub waits_after : Stop → ℕ → List ℕ → List ℕ
waits_after (Stop.Lacks a) line waits = set waits a.0 (insert (slice_index_or waits a.0 0) line)
waits_after _ line waits = waits

abbrev pub noted : Waiting → ℕ → Reached → Waiting
noted w line r = record { starts = w.starts; behind = set w.behind line r.behind; waits = waits_after r.stop line w.waits; count = w.count; all = w.all }

module _ (rs : Readings) (ws : List ℕ) where
  -- whether a constraint holds from an index on, and how many words a trial fetches from there
  abbrev pub holds_from : ActionSet → ℕ → Bool
  holds_from s at = list_any ends_constraint (ran (constraint_test rs s) 0 (drop at ws))

  abbrev pub tried_from : ActionSet → ℕ → ℕ
  tried_from s at = fetches (up_to ends_constraint (ran (constraint_test rs s) 0 (drop at ws)))

  -- a trial that is at one index goes on at another, after so many words
  pub record Goes (s : ActionSet) (at next n : ℕ) : Type 0 where
    pub holds : holds_from s at ≡ holds_from s next
    pub words : tried_from s at ≡ n + tried_from s next

  -- after so many words it comes to the end of a constraint, which holds
  pub record Ends (s : ActionSet) (at n : ℕ) : Type 0 where
    pub holds : holds_from s at ≡ true
    pub words : tried_from s at ≡ n

  -- the line from one index to another was run up to a third on a set. It waits for an action that the set lacks, or for none: on
  -- every larger set that lacks it too it is left there, and on one that has it the line goes on there
  pub record Stands (s : ActionSet) (start behind end : ℕ) (waits : ℕ → Bool) : Type 0 where
    pub forward : start ≤ behind
    pub within : behind ≤ end
    pub under : (a : ℕ) → waits a ≡ true → a < 64
    pub lacks : (a : ℕ) → waits a ≡ true → has s.bits a ≡ false
    pub one : (a b : ℕ) → waits a ≡ true → waits b ≡ true → a ≡ b
    pub left : (t : ActionSet) → Within s t → ((a : ℕ) → waits a ≡ true → has t.bits a ≡ false) → Goes t start end (behind - start)
    pub passed : (t : ActionSet) → Within s t → (a : ℕ) → waits a ≡ true → has t.bits a ≡ true → Goes t start behind (behind - start)
    pub onward : (a : ℕ) → waits a ≡ true → LineTo ws behind end

  -- what the run of a line answers
  unfoldable pub Told : ActionSet → ℕ → ℕ → ℕ → Stop → Type 0
  Told s from behind end Stop.Holds = (t : ActionSet) → Within s t → Ends t from (behind - from)
  Told s from behind end stop = Stands s from behind end (waits_for stop)

  pub record Reaches (s : ActionSet) (from end : ℕ) (r : Reached) : Type 0 where
    pub forward : from ≤ r.behind
    pub within : r.behind ≤ end
    pub told : Told s from r.behind end r.stop

  -- each line stands where the set leaves it, up to the last
  pub record Lines (s : ActionSet) (starts behind waits : List ℕ) (count : ℕ) : Type 0 where
    pub few : count ≤ 64
    pub first : slice_index_or starts 0 0 ≡ 0
    pub line : (n : ℕ) → n < count → Stands s (slice_index_or starts n 0) (slice_index_or behind n 0) (slice_index_or starts (n + 1) 0) (waits_in waits n)
    pub only : (n a : ℕ) → waits_in waits n a ≡ true → n < count

  pub record Standing (s : ActionSet) (w : Waiting) : Type 0 where
    pub lines : Lines s w.starts w.behind w.waits w.count
    pub last : length ws ≤ slice_index_or w.starts w.count 0
    pub all : w.all ≡ fetched w.starts w.behind w.count

  -- more than 64 lines: so many stand with no action, and words are left
  pub record Crowded : Type 0 where
    pub first : Waiting
    pub stand : Lines no_actions first.starts first.behind first.waits 64
    pub left : slice_index_or first.starts 64 0 < length ws

-- no lines yet
abbrev pub no_lines : Waiting
no_lines = record { starts = replicate 65 0; behind = replicate 64 0; waits = replicate 64 0; count = 0; all = 0 }
