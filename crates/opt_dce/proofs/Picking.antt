-- Lists without what is picked, by index or by element.
use Rattle.std.proofs.Common.{◌≡◌, ◌⊎◌, inl, inr, ℕ, zero, suc, Bool, true, false, List, [], ◌∷◌, map, length, Option, Some, None, unwrap_or, remove, slice_get, refl, sym, ap}
use Rattle.std.specs.Prelude.{if◌then◌else◌}
use Rattle.opt_trees.specs.Dialect.{drop}
use Rattle.opt_dialect.specs.Masks.{marked}
use Rattle.opt_trees.specs.Occurrences.{Has}
use Rattle.opt_dce.specs.Steps.{without}

pub true_or_false : (b : Bool) → (b ≡ true) ⊎ (b ≡ false)
true_or_false true = inl refl
true_or_false false = inr refl

pub not_true : (b : Bool) → (b ≡ true → ⊥) → b ≡ false
not_true true h = absurd (h refl)
not_true false h = refl

pub same_truth : (a b : Bool) → (a ≡ true → b ≡ true) → (b ≡ true → a ≡ true) → a ≡ b
same_truth true b f g = sym (f refl)
same_truth false true f g = g refl
same_truth false false f g = refl

module _ {X : Type 0} where
  pub drop_none : (xs : List X) → drop (λ i. false) xs ≡ xs
  drop_none [] = refl
  drop_none (x ∷ xs) = ap (λ l. x ∷ l) (drop_none xs)

  pub without_none : (picks : X → Bool) (xs : List X) → ((x : X) → Has x xs → picks x ≡ false) → without picks xs ≡ xs
  without_none picks [] none = refl
  without_none picks (x ∷ xs) none = rw (none x (inl refl)) (ap (λ l. x ∷ l) (without_none picks xs (λ y h. none y (inr h))))

pub drop_map : {X Y : Type 0} (f : X → Y) (picks : ℕ → Bool) (xs : List X) → map f (drop picks xs) ≡ drop picks (map f xs)
drop_map f picks [] = refl
drop_map f picks (x ∷ xs) = drop_one (picks 0) (drop_map f (λ i. picks (suc i)) xs) where
  drop_one : (b : Bool) → map f (drop (λ i. picks (suc i)) xs) ≡ drop (λ i. picks (suc i)) (map f xs) → map f (if b then drop (λ i. picks (suc i)) xs else x ∷ drop (λ i. picks (suc i)) xs) ≡ (if b then drop (λ i. picks (suc i)) (map f xs) else f x ∷ drop (λ i. picks (suc i)) (map f xs))
  drop_one true e = e
  drop_one false e = ap (λ l. f x ∷ l) e

-- without what is picked from an index on
abbrev pub dropped_from : {X : Type 0} → ℕ → (ℕ → Bool) → List X → List X
dropped_from zero picks xs = drop picks xs
dropped_from (suc i) picks [] = []
dropped_from (suc i) picks (x ∷ xs) = x ∷ dropped_from i (λ j. picks (suc j)) xs

module _ {X : Type 0} where
  pub none_from : (picks : ℕ → Bool) (xs : List X) → dropped_from (length xs) picks xs ≡ xs
  none_from picks [] = refl
  none_from picks (x ∷ xs) = ap (λ l. x ∷ l) (none_from (λ j. picks (suc j)) xs)

  pub one_from : (i : ℕ) (picks : ℕ → Bool) (xs : List X) → picks i ≡ true → remove (dropped_from (suc i) picks xs) i ≡ dropped_from i picks xs
  one_from zero picks [] h = refl
  one_from zero picks (x ∷ xs) h = rw h refl
  one_from (suc i) picks [] h = refl
  one_from (suc i) picks (x ∷ xs) h = ap (λ l. x ∷ l) (one_from i (λ j. picks (suc j)) xs h)

  pub kept_from : (i : ℕ) (picks : ℕ → Bool) (xs : List X) → picks i ≡ false → dropped_from (suc i) picks xs ≡ dropped_from i picks xs
  kept_from zero picks [] h = refl
  kept_from zero picks (x ∷ xs) h = rw h refl
  kept_from (suc i) picks [] h = refl
  kept_from (suc i) picks (x ∷ xs) h = ap (λ l. x ∷ l) (kept_from i (λ j. picks (suc j)) xs h)

  pub at_from : (i : ℕ) (picks : ℕ → Bool) (xs : List X) → slice_get (dropped_from (suc i) picks xs) i ≡ slice_get xs i
  at_from zero picks [] = refl
  at_from zero picks (x ∷ xs) = refl
  at_from (suc i) picks [] = refl
  at_from (suc i) picks (x ∷ xs) = at_from i (λ j. picks (suc j)) xs

-- what is marked is marked at its index, and the other way round
pub is_marked : (marks : List Bool) (i : ℕ) → marked marks i ≡ true → slice_get marks i ≡ Some true
is_marked marks i h = by_case (slice_get marks i) h where
  by_case : (o : Option Bool) → unwrap_or o false ≡ true → o ≡ Some true
  by_case None e = let f : false ≡ true = e in cc
  by_case (Some b) e = ap Some e

pub marked_if : (marks : List Bool) (i : ℕ) → slice_get marks i ≡ Some true → marked marks i ≡ true
marked_if marks i h = ap (λ o. unwrap_or o false) h
