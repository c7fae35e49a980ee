-- Depth-first search.
use Rattle.std.specs.Prelude.{◌≡◌, List, [], ◌∷◌, ◌++◌, Contains}

-- the nodes in the order in which they were first seen (preorder), and in which they were left (postorder)
pub record Traversal (X : Type 0) : Type 0 where
  pub seen : List X
  pub left : List X

module _ {X : Type 0} where
  -- some lists, one after the other
  abbrev pub joined : List (List X) → List X
  joined [] = []
  joined (xs ∷ xss) = xs ++ joined xss

  abbrev pub empty : Traversal X
  empty = record { seen = []; left = [] }

  abbrev pub see : X → Traversal X → Traversal X
  see n o = record { seen = o.seen ++ n ∷ []; left = o.left }

  abbrev pub leave : X → Traversal X → Traversal X
  leave n o = record { seen = o.seen; left = o.left ++ n ∷ [] }

-- Visiting some nodes one after the other leads from one traversal to another: a node that was seen is passed over; any
-- other is seen, then its successors are visited, then it is left.
pub data Visits {X : Type 0} (next : X → List X) : Traversal X → List X → Traversal X → Type 0 where
  Nothing : {o : Traversal X} → Visits next o [] o
  Passes : {o q : Traversal X} {n : X} {ns : List X} → Contains o.seen n → Visits next o ns q → Visits next o (n ∷ ns) q
  Enters : {o p q : Traversal X} {n : X} {ns : List X} → (Contains o.seen n → ⊥) → Visits next (see n o) (next n) p → Visits next (leave n p) ns q → Visits next o (n ∷ ns) q

-- Visiting some nodes one after the other, where each that was not seen begins a component: the nodes that are left while
-- it is visited, in the order in which they are left.
pub data VisitsApart {X : Type 0} (next : X → List X) : Traversal X → List X → List (List X) → Traversal X → Type 0 where
  NothingApart : {o : Traversal X} → VisitsApart next o [] [] o
  PassesApart : {o q : Traversal X} {n : X} {ns : List X} {parts : List (List X)} → Contains o.seen n → VisitsApart next o ns parts q → VisitsApart next o (n ∷ ns) parts q
  BeginsApart : {o p q : Traversal X} {n : X} {ns part : List X} {parts : List (List X)} → (Contains o.seen n → ⊥) → Visits next o (n ∷ []) p → p.left ≡ o.left ++ part
      → VisitsApart next p ns parts q → VisitsApart next o (n ∷ ns) (part ∷ parts) q

module _ {X : Type 0} (next : X → List X) where
  -- the nodes in the order in which a depth-first search from the roots, one after the other, leaves them
  abbrev pub IsPostOrder : List X → List X → Type 0
  IsPostOrder roots order = (seen : List X) × Visits next empty roots (record { seen = seen; left = order })

  -- the same, apart for each root that none before it reached
  abbrev pub IsPostOrderApart : List X → List (List X) → Type 0
  IsPostOrderApart roots parts = (q : Traversal X) × VisitsApart next empty roots parts q
