-- A graph with its edges turned round.
use Rattle.std.specs.Prelude.{◌≡◌, ℕ, ◌≤◌, ◌<◌, ◌^◌, List, [], ◌∷◌, ◌++◌, Bool, true, false, Some, map, length, slice_get, Contains}
use Rattle.std.specs.List.{list_any}
use Rattle.digraph.specs.Graph.{Reaches}
use Rattle.ir_graph.specs.declared.reverse.ReverseNode.{ReverseNode}
use Rattle.ir_graph.specs.declared.reverse.ReverseNode.TheVariants.{Sentinel, Real}
use Rattle.ir_graph.specs.Graphs.{AreDistinctNodes}

module _ {X : Type 0} where
  -- all that a node reaches reaches it too, and stands in no later place: it is the last of a component that no edge leaves
  abbrev pub IsPreSentinel : (X → List X) → List X → X → Type 0
  IsPreSentinel next nodes n = (m : X) → Reaches next n m → Reaches next m n × ((i j : ℕ) → slice_get nodes i ≡ Some m → slice_get nodes j ≡ Some n → i ≤ j)

  -- the last nodes of all components that no edge leaves, each once
  pub record ArePreSentinels (next : X → List X) (nodes found : List X) : Type 0 where
    pub only : (n : X) → Contains found n → Contains nodes n × IsPreSentinel next nodes n
    pub all : (n : X) → Contains nodes n → IsPreSentinel next nodes n → Contains found n
    pub once : AreDistinctNodes found

  -- a graph can be turned round with these pre-sentinels: there is room for the edges to any node
  pub record CanReverse (next : X → List X) (nodes found : List X) : Type 0 where
    pub ends : ArePreSentinels next nodes found
    pub room : (n : X) → Contains nodes n → length (next n) < 2 ^ 63

  -- all nodes, the one that is added first
  abbrev pub reverse_nodes : List X → List (ReverseNode X)
  reverse_nodes nodes = Sentinel ∷ map Real nodes

  -- the added node leads to the pre-sentinels, any other to its predecessors
  abbrev pub reverse_successors : (X → List X) → List X → ReverseNode X → List (ReverseNode X)
  reverse_successors previous found Sentinel = map Real found
  reverse_successors previous found (Real n) = map Real (previous n)

  -- the added node, or nothing
  abbrev pub sentinel_if : Bool → List (ReverseNode X)
  sentinel_if true = Sentinel ∷ []
  sentinel_if false = []

  -- no edge leads to the added node; one leads to any other from each of its successors, and from the added node if it is a pre-sentinel
  abbrev pub reverse_predecessors : (X → X → Bool) → (X → List X) → List X → ReverseNode X → List (ReverseNode X)
  reverse_predecessors eq next found Sentinel = []
  reverse_predecessors eq next found (Real n) = map Real (next n) ++ sentinel_if (list_any (eq n) found)
