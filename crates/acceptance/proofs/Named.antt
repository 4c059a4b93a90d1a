-- The events of an accepted epoch line are those that it names.
use Rattle.std.proofs.Common.{ℕ, ◌<◌, Bool, true, ◌||◌, List, [], ◌∷◌, ◌≡◌, refl, arith, fold, Ok, Some, eqb}
use Rattle.std.proofs.lemmas.Bool.Decides.{nat_tests}
use Rattle.policy.proofs.SetLaws.{has_empty, has_insert_same, has_insert_other}
use Rattle.policy.specs.declared.epoch.Epoch.{Epoch}
use Rattle.std.specs.List.{list_all, list_any}
use Rattle.policy.specs.Number.{set_limit}
use Rattle.policy.specs.Set.{has, insert, has_event}
use Rattle.epoch_line.specs.Epoch.{Item, event, value, items_of, item_in_range, add_item, empty_epoch, read_epoch}
use Rattle.lexer.specs.Lines.{tokens_of}
use Rattle.acceptance.specs.Named.{named_by}
use Rattle.acceptance.proofs.Given.{Read, items_read_is}

module _ (n : ℕ) where
  one_more : (m s : ℕ) → m < set_limit → (named : Bool) → named || has (insert s m) n ≡ (eqb n m || named) || has s n
  one_more m s h named = grind (arith, nat_tests, has_insert_same s m, has_insert_other s m n)

  names : (is : List Item) (e : Epoch) → list_all item_in_range is ≡ true
      → has (fold add_item e is).events.bits n ≡ list_any (eqb n) (named_by is) || has e.events.bits n
  unfolding named_by add_item item_in_range
  names [] e r = refl
  names (event m ∷ is) e r = grind (arith, nat_tests, one_more m e.events.bits, names is (add_item e (event m)))
  names (value m k ∷ is) e r = grind (arith, names is (add_item e (value m k)))

-- on an accepted line, an event has occurred exactly if an item of the line names it
pub line_names : (e : Epoch) (line : List ℕ) (is : List Item) → items_of (tokens_of line) ≡ Some is → read_epoch line ≡ Ok e
    → (n : ℕ) → has_event e.events (record { 0 = n }) ≡ list_any (eqb n) (named_by is)
line_names e line is shape taken n =
    let r : Read e is = items_read_is e line is shape taken in grind (arith, r.whole, names n is empty_epoch r.ranges, has_empty n)
