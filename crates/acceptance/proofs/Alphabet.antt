-- The events of an epoch that a line names are E0 to E63.
use Rattle.std.proofs.Common.{ℕ, arith, List, [], ◌∷◌, ◌≡◌, lit<, fold, Ok}
use Rattle.policy.proofs.SetLaws.{insert_limit}
use Rattle.policy.specs.Epoch.{InAlphabet}
use Rattle.policy.specs.declared.epoch.Epoch.{Epoch}
use Rattle.epoch_line.specs.Epoch.{Item, event, value, add_item, empty_epoch, judge_epoch, read_epoch}

added : (is : List Item) (e : Epoch) → InAlphabet e → InAlphabet (fold add_item e is)
unfolding add_item
added [] e h = h
added (event n ∷ is) e h = added is (add_item e (event n)) (insert_limit e.events.bits n h)
added (value n k ∷ is) e h = added is (add_item e (value n k)) h

pub line_inside : (line : List ℕ) (e : Epoch) → read_epoch line ≡ Ok e → InAlphabet e
unfolding read_epoch judge_epoch
line_inside line e q = grind (arith, λ (is : List Item). added is empty_epoch (lit< tt))
