-- What an edit of one user's row leaves in the row and in the places.
use Rattle.std.specs.Prelude.{◌≡◌, ◌≢◌, ℕ, ◌++◌, ◌≤◌, List, [], ◌∷◌, Option, Some, None, length, slice_get, insert, remove}
use Rattle.ir_entities.specs.Uses.{PlaceOfUse}
use Rattle.ir_entities.specs.Placed.{place_at, shifted_up, shifted_down}

-- the row is that of user i: each place that stands in it is one of this user, at its index, and each place of this user stands in it
pub record IsRowOf (place : ℕ → Option PlaceOfUse) (row : List ℕ) (i : ℕ) : Type 0 where
  pub held : (k p : ℕ) → slice_get row k ≡ Some p → (d : ℕ) × (place p ≡ Some (place_at d i k))
  pub all : (p : ℕ) (x : PlaceOfUse) → place p ≡ Some x → x.user ≡ i → slice_get row x.index ≡ Some p

-- place p, which was not in use, names d now and stands behind the others of user i
pub record PushesIn (place new : ℕ → Option PlaceOfUse) (row rows : List ℕ) (i p d : ℕ) : Type 0 where
  pub fresh : place p ≡ None
  pub changed : rows ≡ row ++ p ∷ []
  pub here : new p ≡ Some (place_at d i (length row))
  pub others : (q : ℕ) → q ≢ p → new q ≡ place q

-- place p, which was not in use, names d now and stands at index k of user i, before the places that stood there and behind
pub record InsertsIn (place new : ℕ → Option PlaceOfUse) (row rows : List ℕ) (i k p d : ℕ) : Type 0 where
  pub within : k ≤ length row
  pub fresh : place p ≡ None
  pub changed : rows ≡ insert row k p
  pub here : new p ≡ Some (place_at d i k)
  pub others : (q : ℕ) → q ≢ p → new q ≡ shifted_up i k (place q)

-- place p, which stood at index k of user i, is out of use, and the places behind it have moved up
pub record RemovesIn (place new : ℕ → Option PlaceOfUse) (row rows : List ℕ) (i k p : ℕ) : Type 0 where
  pub stood : slice_get row k ≡ Some p
  pub changed : rows ≡ remove row k
  pub gone : new p ≡ None
  pub others : (q : ℕ) → q ≢ p → new q ≡ shifted_down i k (place q)
