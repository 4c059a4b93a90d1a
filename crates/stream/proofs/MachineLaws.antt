-- Laws of `Goes`, and of what begins with what.
use Rattle.std.proofs.Common.{◌≡◌, ℕ, ◌+◌, ◌-◌, ◌<◌, List, [], ◌++◌, length, take, drop, refl, sym, ap, ◌∙◌, subst, append_assoc, append-nil, take-append-drop, take-add, length-append, arith}
use Rattle.std.proofs.KnownBytes.{starts_with_rest}
use Rattle.std.proofs.lemmas.List.{append_cancel_left, take_rest}
use Rattle.std.proofs.Math.Seq.{take-append_seam}
use Rattle.std.specs.Io.{StartsWith}
use Rattle.stream.specs.Machine.{Goes}

-- ---- what begins with what

starts_with : (xs front rest : List ℕ) → xs ≡ front ++ rest → StartsWith xs front
starts_with xs front rest e = rw e (take-append_seam front rest)

pub starts_take : (xs : List ℕ) (n : ℕ) → StartsWith xs (take n xs)
starts_take xs n = starts_with xs (take n xs) (drop n xs) (sym (take-append-drop n xs))

pub starts_some : (xs front : List ℕ) → StartsWith xs front → 0 < length front → 0 < length xs
starts_some xs front h some = omega (arith, ap length (starts_with_rest xs front h), length-append front (drop (length front) xs))

pub starts_cut : (xs front : List ℕ) (n : ℕ) → StartsWith xs front → StartsWith xs (take n front)
starts_cut xs front n h =
    starts_with xs (take n front) (drop n front ++ drop (length front) xs)
    (cc (starts_with_rest xs front h, take-append-drop n front, append_assoc (take n front) (drop n front) (drop (length front) xs)))

-- ---- from one state of a machine to another

-- what is said of the machine's bytes to come
abbrev Moves : {S : Type 0} (says : S → List ℕ → List ℕ) → S → S → List ℕ → List ℕ → Type 0
Moves says a b xs ts = (rest : List ℕ) → says a (xs ++ rest) ≡ ts ++ says b rest

module _ {S : Type 0} (says : S → List ℕ → List ℕ) (a b : S) (text : List ℕ) where
  moves_trans : (c : S) (xs ys us : List ℕ) → Moves says a b xs text → Moves says b c ys us → Moves says a c (xs ++ ys) (text ++ us)
  moves_trans c xs ys us p q rest = cc (append_assoc xs ys rest, p (ys ++ rest), q rest, append_assoc text us (says c rest))

  -- what goes first behind what was handed out begins what is due for more
  pub starts_behind : (bytes front rest : List ℕ) → Moves says a b bytes text → StartsWith (says b rest) front → StartsWith (says a (bytes ++ rest)) (text ++ front)
  starts_behind bytes front rest p h =
      starts_with _ (text ++ front) (drop (length front) (says b rest))
      (cc (p rest, starts_with_rest (says b rest) front h, append_assoc text front (drop (length front) (says b rest))))

  pub starts_fed : (chunk front : List ℕ) (n : ℕ) → Moves says a b (take n chunk) text → ((rest : List ℕ) → StartsWith (says b rest) front) → StartsWith (says a chunk) (text ++ front)
  starts_fed chunk front n p h = rw take-append-drop at (starts_behind (take n chunk) front (drop n chunk) p (h (drop n chunk)))

module _ {S : Type 0} (given printed : S → List ℕ → List ℕ) where
  abbrev pub From : S → S → List ℕ → List ℕ → Type 0
  From = Goes given printed

  pub goes_refl : (a : S) → From a a [] []
  goes_refl a = record { at_once = λ rest. refl; in_all = λ rest. refl }

  pub goes_trans : (a b c : S) (xs ys ts us : List ℕ) → From a b xs ts → From b c ys us → From a c (xs ++ ys) (ts ++ us)
  goes_trans a b c xs ys ts us p q =
      record { at_once = moves_trans given a b ts c xs ys us p.at_once q.at_once; in_all = moves_trans printed a b ts c xs ys us p.in_all q.in_all }

  -- where all that is due was handed out, nothing waits
  pub goes_emptied : (a b : S) (xs : List ℕ) → From a b xs (given a xs) → given b [] ≡ []
  goes_emptied a b xs p = append_cancel_left (given a xs) (given b []) [] (cc (append-nil (given a xs), append-nil xs, p.at_once []))

  -- the machine took n bytes behind the first `at` of a chunk
  pub goes_fed : (a b c : S) (chunk text : List ℕ) (at n : ℕ) → From a b (take at chunk) text
      → From b c (take n (take (length chunk - at) (drop at chunk))) [] → From a c (take (at + n) chunk) text
  goes_fed a b c chunk text at n p q =
      let bytes : take at chunk ++ take n (take (length chunk - at) (drop at chunk)) ≡ take (at + n) chunk =
      ap (λ l. take at chunk ++ take n l) (take_rest chunk at) ∙ sym (take-add at n chunk) in
      subst (λ l. From a c l text) bytes (subst (From a c _) (append-nil text) (goes_trans a b c _ _ _ _ p q))
