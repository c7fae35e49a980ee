-- Lists without what is picked.
use Rattle.std.proofs.Common.{◌≡◌, inl, inr, Bool, true, false, List, [], ◌∷◌, refl, ap}
use Rattle.opt_trees.specs.Occurrences.{Has}
use Rattle.opt_simplify.specs.Removed.{without}

pub not_true : (b : Bool) → (b ≡ true → ⊥) → b ≡ false
not_true true h = absurd (h refl)
not_true false h = refl

pub without_none : {X : Type 0} (picks : X → Bool) (xs : List X) → ((x : X) → Has x xs → picks x ≡ false) → without picks xs ≡ xs
without_none picks [] none = refl
without_none picks (x ∷ xs) none = rw (none x (inl refl)) (ap (λ l. x ∷ l) (without_none picks xs (λ y h. none y (inr h))))
