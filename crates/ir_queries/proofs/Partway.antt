-- Half way through a list.
use Rattle.std.proofs.Common.{◌≡◌, ◌⊎◌, inl, inr, ⊎_elim, ℕ, zero, suc, ◌+◌, ◌<◌, List, [], ◌∷◌, ◌++◌, length, Option, None, Some, slice_get, refl, sym, ap, ◌∙◌, subst, append_assoc, arith}
use Rattle.std.specs.Iterator.{SkipsThenYields, YieldsFirst}
use Rattle.std.proofs.lemmas.Iterator.Consumers.{nth_from_yields_List, YieldsList-from_first}
use Rattle.std.proofs.lemmas.Option.{same_Some}

pub get-middle : {X : Type 0} (done rest : List X) (x : X) → slice_get (done ++ x ∷ rest) (length done) ≡ Some x
get-middle [] rest x = refl
get-middle (d ∷ done) rest x = get-middle done rest x

-- what stands in the first part stands at the same index of the whole
pub get-front : {X : Type 0} (done rest : List X) (k : ℕ) (x : X) → slice_get done k ≡ Some x → slice_get (done ++ rest) k ≡ Some x
get-front [] rest k x e = cc
get-front (d ∷ done) rest zero x e = e
get-front (d ∷ done) rest (suc k) x e = get-front done rest k x e

-- what stands in the second part stands behind the first
pub get-back : {X : Type 0} (done rest : List X) (k : ℕ) (x : X) → slice_get rest k ≡ Some x → (i : ℕ) × (slice_get (done ++ rest) i ≡ Some x)
get-back [] rest k x e = (k, e)
get-back (d ∷ done) rest k x e = let r = get-back done rest k x e in (suc r.0, r.1)

-- what stands in the whole stands in one of the parts
pub get-split : {X : Type 0} (done rest : List X) (i : ℕ) (x : X) → slice_get (done ++ rest) i ≡ Some x → (slice_get done i ≡ Some x) ⊎ ((k : ℕ) × (length done + k ≡ i) × (slice_get rest k ≡ Some x))
get-split [] rest i x e = inr (i, omega arith, e)
get-split (d ∷ done) rest zero x e = inl e
get-split (d ∷ done) rest (suc i) x e = ⊎_elim inl (λ (r : (k : ℕ) × (length done + k ≡ i) × (slice_get rest k ≡ Some x)). inr (r.0, omega (arith, r.1), r.2)) (get-split done rest i x e)

-- what stands in a list with one item more is that item, at the end, or stood there before
pub get-last : {X : Type 0} (done : List X) (y : X) (i : ℕ) (x : X) → slice_get (done ++ y ∷ []) i ≡ Some x → (slice_get done i ≡ Some x) ⊎ ((i ≡ length done) × (x ≡ y))
get-last [] y zero x e = inr (refl, same_Some x y (sym e))
get-last [] y (suc i) x e = cc
get-last (d ∷ done) y zero x e = inl e
get-last (d ∷ done) y (suc i) x e = ⊎_elim inl (λ (r : (i ≡ length done) × (x ≡ y)). inr (ap suc r.0, r.1)) (get-last done y i x e)

-- one item further, and at the end
pub moved : {X : Type 0} (P : List X → Type 0) (done rest next : List X) (x : X) → rest ≡ x ∷ next → P (done ++ rest) → P ((done ++ x ∷ []) ++ next)
moved P done rest next x e h = subst P (ap (λ r. done ++ r) e ∙ sym (append_assoc done (x ∷ []) next)) h

nothing-behind : {X : Type 0} (done : List X) → done ++ [] ≡ done
nothing-behind [] = refl
nothing-behind (d ∷ done) = ap (λ r. d ∷ r) (nothing-behind done)

pub ended : {X : Type 0} (P : List X → Type 0) (done rest : List X) → rest ≡ [] → P (done ++ rest) → P done
ended P done rest e h = subst P (ap (λ r. done ++ r) e ∙ nothing-behind done) h

-- at an index within the list something stands
pub get-within : {X : Type 0} (xs : List X) (i : ℕ) → i < length xs → (x : X) × (slice_get xs i ≡ Some x)
get-within [] i lt = absurd (omega arith)
get-within (x ∷ xs) zero lt = (x, refl)
get-within (x ∷ xs) (suc i) lt = let less : i < length xs = omega arith in get-within xs i less

-- what `nth` gives of an iterator that shows what is left is what stands at that index
pub nth-is : {X : Type 0} (all : List X) (r : Option X) (rest : List X) (n : ℕ) → SkipsThenYields (YieldsFirst (λ (s : List X). s)) all n r rest → r ≡ slice_get all n
nth-is all None rest n h = nth_from_yields_List None rest n h (YieldsList-from_first (λ x. x) (λ s. s) all refl)
nth-is all (Some x) rest n h = nth_from_yields_List (Some x) rest n h (YieldsList-from_first (λ x. x) (λ s. s) all refl)
