-- Lists of one member.
use Rattle.std.proofs.Common.{◌≡◌, List, [], ◌∷◌, Some, length, slice_get, arith}

-- a list of one member is that member alone
pub only_member : {A : Type 0} (xs : List A) (x : A) → length xs ≡ 1 → slice_get xs 0 ≡ Some x → xs ≡ x ∷ []
only_member [] x one here = grind arith
only_member (y ∷ []) x one here = grind arith
only_member (y ∷ z ∷ ys) x one here = grind arith
