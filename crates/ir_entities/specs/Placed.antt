-- Which places stand in which rows: each user has a row, its places in their order.
use Rattle.std.specs.Prelude.{◌≡◌, ◌≢◌, ℕ, suc, ◌-◌, ◌≤◌, ◌++◌, List, [], ◌∷◌, Option, Some, None, if◌then◌else◌, nat_eq, nat_le, nat_lt, length, slice_get, insert, remove}
use Rattle.ir_entities.specs.Uses.{PlaceOfUse, at_index}

-- the place at index k of user i, where it names d
abbrev pub place_at : ℕ → ℕ → ℕ → PlaceOfUse
place_at d i k = record { definition = d; user = i; index = k }

-- the rows hold exactly the places in use, each in the row of its user and at its index
pub record IsPlaced (place : ℕ → Option PlaceOfUse) (row : ℕ → List ℕ) : Type 0 where
  pub held : (i k p : ℕ) → slice_get (row i) k ≡ Some p → (d : ℕ) × (place p ≡ Some (place_at d i k))
  pub all : (p : ℕ) (x : PlaceOfUse) → place p ≡ Some x → slice_get (row x.user) x.index ≡ Some p

-- a place as it is once another came in before index k of user i
abbrev pub shifted_up : ℕ → ℕ → Option PlaceOfUse → Option PlaceOfUse
shifted_up i k None = None
shifted_up i k (Some x) = Some (record x { index = if nat_eq x.user i then (if nat_le k x.index then suc x.index else x.index) else x.index })

-- a place as it is once the one at index k of user i went out
abbrev pub shifted_down : ℕ → ℕ → Option PlaceOfUse → Option PlaceOfUse
shifted_down i k None = None
shifted_down i k (Some x) = Some (record x { index = if nat_eq x.user i then (if nat_lt k x.index then x.index - 1 else x.index) else x.index })

-- no row but that of user i changes
abbrev pub KeepsOtherRows : (ℕ → List ℕ) → (ℕ → List ℕ) → ℕ → Type 0
KeepsOtherRows row rows i = (j : ℕ) → j ≢ i → rows j ≡ row j

-- place p, which was not in use, names d now and stands behind the others of user i
pub record PushesPlace (place new : ℕ → Option PlaceOfUse) (row rows : ℕ → List ℕ) (i p d : ℕ) : Type 0 where
  pub fresh : place p ≡ None
  pub changed : rows i ≡ row i ++ p ∷ []
  pub rest : KeepsOtherRows row rows i
  pub here : new p ≡ Some (place_at d i (length (row i)))
  pub others : (q : ℕ) → q ≢ p → new q ≡ place q

-- place p, which was not in use, names d now and stands at index k of user i, before the places that stood there and behind
pub record InsertsPlace (place new : ℕ → Option PlaceOfUse) (row rows : ℕ → List ℕ) (i k p d : ℕ) : Type 0 where
  pub within : k ≤ length (row i)
  pub fresh : place p ≡ None
  pub changed : rows i ≡ insert (row i) k p
  pub rest : KeepsOtherRows row rows i
  pub here : new p ≡ Some (place_at d i k)
  pub others : (q : ℕ) → q ≢ p → new q ≡ shifted_up i k (place q)

-- place p, which stood at index k of user i, is out of use, and the places behind it have moved up
pub record RemovesPlace (place new : ℕ → Option PlaceOfUse) (row rows : ℕ → List ℕ) (i k p : ℕ) : Type 0 where
  pub stood : slice_get (row i) k ≡ Some p
  pub changed : rows i ≡ remove (row i) k
  pub rest : KeepsOtherRows row rows i
  pub gone : new p ≡ None
  pub others : (q : ℕ) → q ≢ p → new q ≡ shifted_down i k (place q)

-- the place is in use where it was, at the same user and the same index; what it names may be another definition
abbrev pub StandsAlike : Option PlaceOfUse → Option PlaceOfUse → Type 0
StandsAlike None x = x ≡ None
StandsAlike (Some x) new = (d : ℕ) × (new ≡ Some (record x { definition = d }))

-- the places of user i are out of use, and its row is empty
pub record ClearsRow (place new : ℕ → Option PlaceOfUse) (row rows : ℕ → List ℕ) (i : ℕ) : Type 0 where
  pub changed : rows i ≡ []
  pub rest : KeepsOtherRows row rows i
  pub gone : (k q : ℕ) → slice_get (row i) k ≡ Some q → new q ≡ None
  pub others : (q : ℕ) → ((k : ℕ) → slice_get (row i) k ≡ Some q → ⊥) → new q ≡ place q

-- the places of a row have their indices, from `from` on; each other place is as it was
pub record Renumbers (place new : ℕ → Option PlaceOfUse) (row : List ℕ) (from : ℕ) : Type 0 where
  pub later : (j q : ℕ) → from ≤ j → slice_get row j ≡ Some q → new q ≡ at_index j (place q)
  pub others : (q : ℕ) → ((j : ℕ) → from ≤ j → slice_get row j ≡ Some q → ⊥) → new q ≡ place q

-- no place stands at two indices of the row
abbrev pub IsDistinctRow : List ℕ → Type 0
IsDistinctRow row = (j k q : ℕ) → slice_get row j ≡ Some q → slice_get row k ≡ Some q → j ≡ k

-- the places of the row are out of use; each other place is as it was
pub record ReleasesPlaces (place new : ℕ → Option PlaceOfUse) (row : List ℕ) : Type 0 where
  pub gone : (k q : ℕ) → slice_get row k ≡ Some q → new q ≡ None
  pub others : (q : ℕ) → ((k : ℕ) → slice_get row k ≡ Some q → ⊥) → new q ≡ place q
