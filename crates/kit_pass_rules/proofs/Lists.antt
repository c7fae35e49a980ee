-- Members of lists, by their index and without it.
use Rattle.std.proofs.Common.{◌≡◌, ⊎_elim, inl, inr, ℕ, zero, suc, ◌<◌, List, [], ◌∷◌, map, take, Some, slice_get, refl, sym, ap, ◌∙◌, arith}
use Rattle.opt_trees.specs.Occurrences.{Has}
use Rattle.opt_trees.proofs.Lists.{some_same, none_some}
use Rattle.kit_checks.specs.Words.{Every}

pub map_get : {X Y : Type 0} (f : X → Y) (xs : List X) (k : ℕ) (x : X) → slice_get xs k ≡ Some x → slice_get (map f xs) k ≡ Some (f x)
map_get f [] k x e = absurd (none_some x e)
map_get f (y ∷ xs) zero x e = ap (λ z. Some (f z)) (some_same y x e)
map_get f (y ∷ xs) (suc k) x e = map_get f xs k x e

pub map_at : {X Y : Type 0} (f : X → Y) (xs : List X) (k : ℕ) (y : Y) → slice_get (map f xs) k ≡ Some y → (x : X) × (slice_get xs k ≡ Some x) × (f x ≡ y)
map_at f [] k y e = absurd (none_some y e)
map_at f (x ∷ xs) zero y e = (x, refl, some_same (f x) y e)
map_at f (x ∷ xs) (suc k) y e = map_at f xs k y e

pub get_take : {X : Type 0} (xs : List X) (n k : ℕ) (x : X) → k < n → slice_get xs k ≡ Some x → slice_get (take n xs) k ≡ Some x
get_take xs zero k x below e = absurd (omega (arith, below))
get_take [] (suc n) k x below e = absurd (none_some x e)
get_take (y ∷ xs) (suc n) zero x below e = e
get_take (y ∷ xs) (suc n) (suc k) x below e = get_take xs n k x (omega (arith, below)) e

pub from_take : {X : Type 0} (xs : List X) (n k : ℕ) (x : X) → slice_get (take n xs) k ≡ Some x → (k < n) × (slice_get xs k ≡ Some x)
from_take xs zero k x e = absurd (none_some x e)
from_take [] (suc n) k x e = absurd (none_some x e)
from_take (y ∷ xs) (suc n) zero x e = (omega arith, e)
from_take (y ∷ xs) (suc n) (suc k) x e = let r = from_take xs n k x e in let l : k < n = r.0 in (omega (arith, l), r.1)

pub has_at_index : {X : Type 0} (xs : List X) (k : ℕ) (x : X) → slice_get xs k ≡ Some x → Has x xs
has_at_index [] k x e = absurd (none_some x e)
has_at_index (y ∷ xs) zero x e = inl (sym (some_same y x e))
has_at_index (y ∷ xs) (suc k) x e = inr (has_at_index xs k x e)

pub index_of_has : {X : Type 0} (xs : List X) (x : X) → Has x xs → (k : ℕ) × (slice_get xs k ≡ Some x)
index_of_has [] x h = absurd h
index_of_has (y ∷ xs) x h = ⊎_elim (λ e. (0, ap Some (sym e))) (λ r. let i = index_of_has xs x r in (suc i.0, i.1)) h

-- what holds of each is the same of each
pub map_same : {X Y : Type 0} (f g : X → Y) (xs : List X) → Every (λ x. f x ≡ g x) xs → map f xs ≡ map g xs
map_same f g [] h = refl
map_same f g (x ∷ xs) h = ap (λ z. z ∷ map f xs) (h 0 x refl) ∙ ap (λ l. g x ∷ l) (map_same f g xs (λ k y e. h (suc k) y e))
