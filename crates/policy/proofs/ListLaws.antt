-- Tests as facts: what it says that a test of Bools, or of a whole list, holds.
use Rattle.std.proofs.Common.{Bool, true, List, [], ◌∷◌, Contains, ◌≡◌, refl, ◌⊎◌, arith}
use Rattle.std.proofs.lemmas.Bool.{and_from}
use Rattle.std.proofs.lemmas.List.Elements.{Contains-append_right}
use Rattle.std.proofs.lemmas.List.Folds.{Any-from_list_any, list_all_at, list_any_at}
use Rattle.std.specs.List.{list_all, list_any}

module _ {A : Type 0} where
  -- an element is the first or one of the others
  pub contains_cases : (y : A) (ys : List A) (x : A) → Contains (y ∷ ys) x → (y ≡ x) ⊎ Contains ys x
  contains_cases y ys x h = grind arith

  pub contains_first : (x : A) (xs : List A) → Contains (x ∷ xs) x
  contains_first x xs = grind arith

  pub contains_later : (y : A) (ys : List A) (x : A) → Contains ys x → Contains (y ∷ ys) x
  contains_later y = Contains-append_right (y ∷ [])

  pub contains_one : (y x : A) → Contains (y ∷ []) x → y ≡ x
  contains_one y x h = grind arith

module _ {A : Type 0} (p : A → Bool) where
  pub all_in : (xs : List A) → ((x : A) → Contains xs x → p x ≡ true) → list_all p xs ≡ true
  all_in [] h = refl
  all_in (x ∷ xs) h = and_from _ _ (h x (contains_first x xs)) (all_in xs (λ y m. h y (contains_later x xs y m)))

  pub all_out : (xs : List A) → list_all p xs ≡ true → (x : A) → Contains xs x → p x ≡ true
  all_out xs e x m = grind (arith, list_all_at)

  pub any_in : (xs : List A) (x : A) → Contains xs x → p x ≡ true → list_any p xs ≡ true
  any_in xs x m h = grind (arith, list_any_at)

  pub any_out : (xs : List A) → list_any p xs ≡ true → (x : A) × Contains xs x × (p x ≡ true)
  any_out xs e = let a = Any-from_list_any p xs e in (a.1, (a.0, a.2, a.3), a.4)
