-- A walk over the sites of a text, one scope after the other, and the table by which it looks names up.
use Rattle.std.specs.Prelude.{◌≡◌, ℕ, ◌<◌, ◌≤◌, List, Option, Some, None, cond, nat_eq, ◌⊎◌, slice_get, length}
use Rattle.ir_tokens.specs.declared.faults.Fault.{Fault}
use Rattle.ir_tokens.specs.Faults.{IsNamed}
use Rattle.ir_scopes.specs.declared.scopes.Walk.{Walk}
use Rattle.ir_scopes.specs.declared.sites.Site.{Site}
use Rattle.ir_scopes.specs.Scopes.{name_of, fault_again}

-- ---- an order

-- these are the scope and the number of each site, in the order of the text
abbrev pub AreNumberedSites : List Site → List (ℕ × ℕ) → Type 0
AreNumberedSites ss xs = (length xs ≡ length ss) × ((j : ℕ) (s : Site) → slice_get ss j ≡ Some s → slice_get xs j ≡ Some (s.scope, j))

-- an earlier scope goes before, and in one scope a lower number
abbrev pub IsEarlierSite : ℕ × ℕ → ℕ × ℕ → Type 0
IsEarlierSite x y = (x.0 < y.0) ⊎ ((x.0 ≡ y.0) × (x.1 < y.1))

-- these are the scope and the number of each site, each once, in the order of the scopes
pub record IsScopeOrder (ss : List Site) (order : List (ℕ × ℕ)) : Type 0 where
  pub sites : (i : ℕ) (x : ℕ × ℕ) → slice_get order i ≡ Some x → (s : Site) × (slice_get ss x.1 ≡ Some s) × (s.scope ≡ x.0)
  pub all : (j : ℕ) (s : Site) → slice_get ss j ≡ Some s → (i : ℕ) × (slice_get order i ≡ Some (s.scope, j))
  pub ascends : (i k : ℕ) (x y : ℕ × ℕ) → i < k → slice_get order i ≡ Some x → slice_get order k ≡ Some y → IsEarlierSite x y

-- ---- names in it

-- the token of the site that is found, and 0 where none is
abbrev pub found_token : Option Site → ℕ
found_token None = 0
found_token (Some s) = s.token

-- the token of the site with this number
abbrev pub token_at : List Site → ℕ → ℕ
token_at ss j = found_token (slice_get ss j)

-- the name of the site with this number
abbrev pub name_at : List ℕ → List Site → ℕ → ℕ
name_at names ss j = name_of names (token_at ss j)

-- the names of these sites are the same in both lists
abbrev pub AreNamedAlike : List ℕ → List ℕ → List Site → Type 0
AreNamedAlike names now ss = (j : ℕ) (s : Site) → slice_get ss j ≡ Some s → name_of now s.token ≡ name_of names s.token

-- at this place of the order is a site with this name
abbrev pub IsNameAt : List ℕ → List Site → List (ℕ × ℕ) → ℕ → ℕ → Type 0
IsNameAt names ss order name i = (x : ℕ × ℕ) × (slice_get order i ≡ Some x) × (name_at names ss x.1 ≡ name)

-- the table has a place for the name of each site
abbrev pub HasPlaces : List ℕ → List Site → List ℕ → Type 0
HasPlaces names ss latest = (j : ℕ) (s : Site) → slice_get ss j ≡ Some s → name_of names s.token < length latest

-- Of the first n of the order, this one has the name last; or none has it, and this is no place of the order.
abbrev pub IsLatest : List ℕ → List Site → List (ℕ × ℕ) → ℕ → ℕ → ℕ → Type 0
IsLatest names ss order n name place =
    ((place < n) × IsNameAt names ss order name place × ((i : ℕ) → i < n → IsNameAt names ss order name i → i ≤ place))
    ⊎ ((length order ≤ place) × ((i : ℕ) → i < n → IsNameAt names ss order name i → ⊥))

-- One of the first n of the order has the name and the scope of one before it.
abbrev pub IsAgainBefore : List ℕ → List Site → List (ℕ × ℕ) → ℕ → Fault → Type 0
IsAgainBefore names ss order n f = (i : ℕ) × (k : ℕ) × (x : ℕ × ℕ) × (y : ℕ × ℕ) × (i < k) × (k < n) × (slice_get order i ≡ Some x) × (slice_get order k ≡ Some y)
    × (x.0 ≡ y.0) × (name_at names ss x.1 ≡ name_at names ss y.1) × (f ≡ fault_again (token_at ss y.1))

-- ---- the walk

-- a walk over these sites in this order, of which so many were passed
pub record IsWalkAt (names : List ℕ) (ss : List Site) (order : List (ℕ × ℕ)) (passed : ℕ) (latest : List ℕ) (again : Option Fault) : Type 0 where
  pub ordered : IsScopeOrder ss order
  pub placed : HasPlaces names ss latest
  pub recent : (name place : ℕ) → slice_get latest name ≡ Some place → IsLatest names ss order passed name place
  pub named : IsNamed (IsAgainBefore names ss order passed) again

abbrev pub IsScopeWalk : List ℕ → List Site → Walk → Type 0
IsScopeWalk names ss w = IsWalkAt names ss w.order.items w.passed w.latest.items w.again

-- the number of what is found, if it is in this scope
abbrev pub number_in : ℕ → Option (ℕ × ℕ) → Option ℕ
number_in scope None = None
number_in scope (Some x) = cond (nat_eq x.0 scope) (Some x.1) None

-- the same of what is at the place that is found
abbrev pub number_there : ℕ → List (ℕ × ℕ) → Option ℕ → Option ℕ
number_there scope order None = None
number_there scope order (Some place) = number_in scope (slice_get order place)

-- the number that a name was passed with last, if that was in this scope
abbrev pub number_passed : Walk → ℕ → ℕ → Option ℕ
number_passed w scope name = number_there scope w.order.items (slice_get w.latest.items name)

-- the fault at this token, if its name was passed in its scope
abbrev pub again_at : Option ℕ → ℕ → Option Fault
again_at None token = None
again_at (Some j) token = Some (fault_again token)

-- the first so many of the order stand in no later scope
abbrev pub AreWithin : List (ℕ × ℕ) → ℕ → ℕ → Type 0
AreWithin order n scope = (i : ℕ) (x : ℕ × ℕ) → i < n → slice_get order i ≡ Some x → x.0 ≤ scope

-- all others of the order stand in later scopes
abbrev pub AreBehind : List (ℕ × ℕ) → ℕ → ℕ → Type 0
AreBehind order n scope = (i : ℕ) (x : ℕ × ℕ) → n ≤ i → slice_get order i ≡ Some x → scope < x.0

-- the walk has passed no site of a later scope
abbrev pub IsWithinScope : Walk → ℕ → Type 0
IsWithinScope w scope = AreWithin w.order.items w.passed scope

-- it has passed all of this scope and of those before it
abbrev pub IsThrough : Walk → ℕ → Type 0
IsThrough w scope = AreBehind w.order.items w.passed scope
