-- Words of graphs.
use Rattle.std.specs.Prelude.{◌≡◌, ℕ, List, Some, length, map, slice_get}
use Rattle.std.specs.declared.vec.Vec.{Vec}
use Rattle.std.specs.declared.alloc.Global.{Global}
use Rattle.digraph.specs.Graph.{successors}
use Rattle.digraph.specs.declared.components.Scc.{Scc}

module _ {X : Type 0} where
  -- nothing is in the list twice
  abbrev pub AreDistinctNodes : List X → Type 0
  AreDistinctNodes xs = (i j : ℕ) (x : X) → slice_get xs i ≡ Some x → slice_get xs j ≡ Some x → i ≡ j

  -- the numbers are those of these nodes, one by one
  abbrev pub AreNodeNumbers : List X → List ℕ → List X → Type 0
  AreNodeNumbers nodes numbers named = map (slice_get nodes) numbers ≡ map Some named

  -- the same, list by list
  abbrev pub AreNamedParts : List X → List (List ℕ) → List (List X) → Type 0
  AreNamedParts nodes parts named = map (map (slice_get nodes)) parts ≡ map (map Some) named

  -- the same, component by component
  pub record AreNamedSccs (nodes : List X) (parts : List (Scc ℕ)) (named : List (Scc X)) : Type 0 where
    pub members : AreNamedParts nodes (map (λ (s : Scc ℕ). s.nodes.items) parts) (map (λ (s : Scc X). s.nodes.items) named)
    pub cyclic : map (λ (s : Scc ℕ). s.is_cyclic) parts ≡ map (λ (s : Scc X). s.is_cyclic) named

  -- for each node the numbers of its successors
  pub record AreSuccessorRows (next : X → List X) (nodes : List X) (rows : List (Vec ℕ Global)) : Type 0 where
    pub len : length rows ≡ length nodes
    pub onward : (i : ℕ) (n : X) → slice_get nodes i ≡ Some n → AreNodeNumbers nodes (successors rows i) (next n)

  -- the nodes of a graph, the number of each, and for each the numbers of its successors
  pub record IsNumbering (next : X → List X) (nodes kept : List X) (numbers : List ℕ) (rows : List (Vec ℕ Global)) : Type 0 where
    pub all : kept ≡ nodes
    pub named : AreNodeNumbers nodes numbers nodes
    pub len : length rows ≡ length nodes
    pub onward : (i : ℕ) (n : X) → slice_get nodes i ≡ Some n → AreNodeNumbers nodes (successors rows i) (next n)
