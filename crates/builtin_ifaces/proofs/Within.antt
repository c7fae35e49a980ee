-- Members of lists.
use Rattle.std.proofs.Common.{◌≡◌, ℕ, zero, suc, ◌<◌, List, [], ◌∷◌, Some, slice_get, length, arith}
use Rattle.std.proofs.lemmas.Option.{none-some}

-- a place with a member is within the list
pub listed_within : {X : Type 0} (xs : List X) (i : ℕ) (x : X) → slice_get xs i ≡ Some x → i < length xs
listed_within [] i x e = absurd (none-some x e)
listed_within (y ∷ ys) zero x e = omega arith
listed_within (y ∷ ys) (suc i) x e = let h = listed_within ys i x e in omega (arith, h)
