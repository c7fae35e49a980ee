-- Orders of the nodes of a graph.
use Rattle.std.specs.Prelude.{◌≡◌, List, map, reverse}
use Rattle.std.specs.declared.vec.Vec.{Vec}
use Rattle.std.specs.declared.alloc.Global.{Global}
use Rattle.digraph.specs.Visits.{joined, IsPostOrderApart}

-- some rows, as lists
abbrev pub lists_of : {X : Type 0} → List (Vec X Global) → List (List X)
lists_of {X} rows = map (λ (row : Vec X Global). row.items) rows

module _ {X : Type 0} (next : X → List X) where
  -- the nodes by components, in the order in which a search leaves them, but each component reversed
  abbrev pub IsTopologicalOrderApart : List X → List (List X) → Type 0
  IsTopologicalOrderApart roots parts = (posts : List (List X)) × IsPostOrderApart next roots posts × (parts ≡ map reverse posts)

  -- these components one after the other
  abbrev pub IsTopologicalOrder : List X → List X → Type 0
  IsTopologicalOrder roots order = (parts : List (List X)) × IsTopologicalOrderApart roots parts × (order ≡ joined parts)
