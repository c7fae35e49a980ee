-- A graph and its edges turned round.
use Rattle.std.specs.Prelude.{◌≡◌, ◌⊎◌, ℕ, List, [], length, Contains}
use Rattle.std.specs.declared.vec.Vec.{Vec}
use Rattle.std.specs.declared.alloc.Global.{Global}
use Rattle.digraph.specs.Graph.{successors}

-- the second graph has an edge from b to a exactly where the first has one from a to b
pub record AreTransposed (g r : List (Vec ℕ Global)) : Type 0 where
  pub len : length r ≡ length g
  pub there : (a b : ℕ) → Contains (successors g a) b → Contains (successors r b) a
  pub back : (a b : ℕ) → Contains (successors r b) a → Contains (successors g a) b

-- so many nodes, and no edge
pub record IsEmptyRows (r : List (Vec ℕ Global)) (count : ℕ) : Type 0 where
  pub len : length r ≡ count
  pub none : (n : ℕ) → successors r n ≡ []

-- an edge to node leads from each member of the row, and every other edge was there
pub record AddsSource (old new : List (Vec ℕ Global)) (node : ℕ) (row : List ℕ) : Type 0 where
  pub len : length new ≡ length old
  pub has : (b : ℕ) → Contains row b → Contains (successors new b) node
  pub keeps : (a b : ℕ) → Contains (successors old b) a → Contains (successors new b) a
  pub only : (a b : ℕ) → Contains (successors new b) a → Contains (successors old b) a ⊎ ((a ≡ node) × Contains row b)
