-- What a contract sees of the uses of definitions.
use Rattle.std.specs.Prelude.{◌≡◌, ◌≢◌, ◌↔◌, ℕ, true, cond, eqb, List, [], length, Option, Some, None, IsSome, slice_index_or}
use Rattle.ir_entities.specs.Links.{has, AreDistinctNumbers}
use Rattle.ir_entities.specs.declared.uses.Spot.{Spot}

-- a place: the definition that it names, the user that it belongs to, and its index there
pub record PlaceOfUse : Type 0 where
  pub definition : ℕ
  pub user : ℕ
  pub index : ℕ

-- the key of each definition in use, each place in use, and the places that name each definition in the order in which they are listed, by their numbers
pub record Uses (K : Type 0) : Type 0 where
  pub definitions : List (Option K)
  pub places : List (Option PlaceOfUse)
  pub threads : List (List ℕ)

-- the definition that a place names
abbrev pub named_of : Option PlaceOfUse → Option ℕ
named_of None = None
named_of (Some x) = Some x.definition

-- where a place stands
abbrev pub spot_of : Option PlaceOfUse → Option Spot
spot_of None = None
spot_of (Some x) = Some (record { user = x.user; index = x.index })

module _ {K : Type 0} where
  -- the key of the definition with a number
  abbrev pub key_of : Uses K → ℕ → Option K
  key_of u d = slice_index_or u.definitions d None

  -- the place with a number
  abbrev pub place_of : Uses K → ℕ → Option PlaceOfUse
  place_of u p = slice_index_or u.places p None

  -- the places that name a definition, in the order in which they are listed
  abbrev pub listed_of : Uses K → ℕ → List ℕ
  listed_of u d = slice_index_or u.threads d []

  -- the number is that of a definition in use
  abbrev pub IsDefined : Uses K → ℕ → Type 0
  IsDefined u d = IsSome (key_of u d)

  -- the number is that of a place in use
  abbrev pub IsPlace : Uses K → ℕ → Type 0
  IsPlace u p = IsSome (place_of u p)

  -- the place is in use, and names the definition
  abbrev pub NamesDefinition : Uses K → ℕ → ℕ → Type 0
  NamesDefinition u p d = named_of (place_of u p) ≡ Some d

  -- definition d has this key now, or is out of use; each other definition is as it was
  pub record SetsKey (old new : Uses K) (d : ℕ) (key : Option K) : Type 0 where
    pub changed : key_of new d ≡ key
    pub others : (e : ℕ) → e ≢ d → key_of new e ≡ key_of old e

  -- place p is this now, or is out of use; each other place is as it was
  pub record SetsPlace (old new : Uses K) (p : ℕ) (place : Option PlaceOfUse) : Type 0 where
    pub changed : place_of new p ≡ place
    pub others : (q : ℕ) → q ≢ p → place_of new q ≡ place_of old q

  -- the list holds the places that name the definition, each once
  pub record AreNamingPlaces (u : Uses K) (d : ℕ) (places : List ℕ) : Type 0 where
    pub distinct : AreDistinctNumbers places
    pub exact : (p : ℕ) → (has p places ≡ true) ↔ NamesDefinition u p d

  -- so many places name the definition
  abbrev pub IsCountOf : Uses K → ℕ → ℕ → Type 0
  IsCountOf u d n = (places : List ℕ) × AreNamingPlaces u d places × (length places ≡ n)

-- the same place, naming d
abbrev pub naming : ℕ → Option PlaceOfUse → Option PlaceOfUse
naming d None = None
naming d (Some x) = Some (record x { definition = d })

-- the same place, at index i of its user
abbrev pub at_index : ℕ → Option PlaceOfUse → Option PlaceOfUse
at_index i None = None
at_index i (Some x) = Some (record x { index = i })

-- the same place, naming `to` where it named `from`
abbrev pub renamed : ℕ → ℕ → Option PlaceOfUse → Option PlaceOfUse
renamed from to None = None
renamed from to (Some x) = Some (record x { definition = cond (eqb x.definition from) to x.definition })
