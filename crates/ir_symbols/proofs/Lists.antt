-- Lists of one member.
use Rattle.std.proofs.Common.{◌≡◌, List, [], ◌∷◌, Some, None, Bool, false, IsTrue, length, slice_get, arith}

-- a list of one member is that member alone
pub sole : {A : Type 0} (xs : List A) (x : A) → length xs ≡ 1 → slice_get xs 0 ≡ Some x → xs ≡ x ∷ []
sole [] x one here = grind arith
sole (y ∷ []) x one here = grind arith
sole (y ∷ z ∷ ys) x one here = grind arith

-- a list with a first member and no second one is that member alone
pub first_alone : {A : Type 0} (xs : List A) (x : A) → slice_get xs 0 ≡ Some x → slice_get xs 1 ≡ None → xs ≡ x ∷ []
first_alone [] x here none = cc
first_alone (y ∷ []) x here none = grind arith
first_alone (y ∷ z ∷ ys) x here none = cc

pub not_both : (b : Bool) → IsTrue b → b ≡ false → ⊥
not_both b t f = cc
