-- What a body that was lent leaves, for callers of `body_mut`.
use Rattle.std.proofs.Common.{◌≡◌, ◌≢◌, ℕ, zero, suc, ◌<◌, List, [], ◌∷◌, length, slice_get, slice_set, Option, Some, option_and_then, refl, ap, arith}
use Rattle.ir_base.specs.declared.types.TypeHandle.{TypeHandle}
use Rattle.ir_types.specs.Views.{TypesView}
use Rattle.ir_types.specs.Interned.{body_at}
use Rattle.ir_types.specs.Lends.{with_body}

module _ {X : Type 0} where
  slice_get-slice_set : (xs : List X) (i : ℕ) (x : X) → i < length xs → slice_get (slice_set xs i x) i ≡ Some x
  slice_get-slice_set [] i x h = absurd (omega arith)
  slice_get-slice_set (y ∷ ys) zero x h = refl
  slice_get-slice_set (y ∷ ys) (suc i) x h = slice_get-slice_set ys i x (omega arith)

  slice_get-slice_set_other : (xs : List X) (i j : ℕ) (x : X) → j ≢ i → slice_get (slice_set xs i x) j ≡ slice_get xs j
  slice_get-slice_set_other [] i j x h = refl
  slice_get-slice_set_other (y ∷ ys) zero zero x h = absurd (h refl)
  slice_get-slice_set_other (y ∷ ys) zero (suc j) x h = refl
  slice_get-slice_set_other (y ∷ ys) (suc i) zero x h = refl
  slice_get-slice_set_other (y ∷ ys) (suc i) (suc j) x h = slice_get-slice_set_other ys i j x (λ e. h (ap suc e))

module _ {K B S : Type 0} (s : TypesView K B S) (ty : TypeHandle) (body : Option B) where
  -- the type has the body that it was given
  pub body_at-with_body : ty.number < length s.bodies → body_at (with_body s ty body) ty ≡ body
  body_at-with_body h = ap (option_and_then (λ b. b)) (slice_get-slice_set s.bodies ty.number body h)

  -- and each other type keeps its own
  pub body_at-with_body_other : (other : TypeHandle) → other.number ≢ ty.number → body_at (with_body s ty body) other ≡ body_at s other
  body_at-with_body_other other h = ap (option_and_then (λ b. b)) (slice_get-slice_set_other s.bodies ty.number other.number body h)
