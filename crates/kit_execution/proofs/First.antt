-- The first of a list that passes a test.
use Rattle.std.proofs.Common.{◌≡◌, ℕ, zero, suc, Bool, true, false, List, [], ◌∷◌, Some, slice_get, refl, ap, ◌∙◌, subst, if◌then◌else◌}
use Rattle.kit_places.specs.Store.{first_with}

-- it passes
pub first_passes : {X : Type 0} (test : X → Bool) (xs : List X) (x : X) → first_with test xs ≡ Some x → test x ≡ true
first_passes test [] x e = cc
first_passes {X} test (y ∷ ys) x e = go (test y) refl (first_passes test ys x) e
  where
    go : (b : Bool) → test y ≡ b → (first_with test ys ≡ Some x → test x ≡ true)
        → (if b then Some y else first_with test ys) ≡ Some x → test x ≡ true
    go true is h e = let same : y ≡ x = cc in subst (λ z. test z ≡ true) same is
    go false is h e = h e

-- where one passes there is a first one
pub passing_found : {X : Type 0} (test : X → Bool) (xs : List X) (k : ℕ) (x : X) → slice_get xs k ≡ Some x
    → test x ≡ true → (y : X) × (first_with test xs ≡ Some y)
passing_found test [] k x here passes = cc
passing_found test (z ∷ zs) zero x here passes =
    let same : z ≡ x = cc in
    (z, ap (λ (b : Bool). if b then Some z else first_with test zs) (ap test same ∙ passes))
passing_found {X} test (z ∷ zs) (suc k) x here passes = go (test z) refl (passing_found test zs k x here passes)
  where
    go : (b : Bool) → test z ≡ b → (y : X) × (first_with test zs ≡ Some y)
        → (y : X) × ((if test z then Some z else first_with test zs) ≡ Some y)
    go true is r = (z, ap (λ (b : Bool). if b then Some z else first_with test zs) is)
    go false is r = (r.0, ap (λ (b : Bool). if b then Some z else first_with test zs) is ∙ r.1)
