-- Strongly connected components.
use Rattle.std.specs.Prelude.{◌≡◌, ℕ, ◌≤◌, List, [], Option, Some, None, slice_get, Contains, Bool, false, IsTrue, ◌↔◌}
use Rattle.digraph.specs.Graph.{Reaches}
use Rattle.digraph.specs.declared.components.Scc.{Scc}

module _ {X : Type 0} where
  abbrev pub nodes_of : Option (Scc X) → List X
  nodes_of None = []
  nodes_of (Some s) = s.nodes.items

  abbrev pub cyclic_of : Option (Scc X) → Bool
  cyclic_of None = false
  cyclic_of (Some s) = s.is_cyclic

  -- node n is in the part at k
  abbrev pub IsInPart : List (Scc X) → ℕ → X → Type 0
  IsInPart parts k n = Contains (nodes_of (slice_get parts k)) n

  -- a path of one edge or more leads from a node back to it
  abbrev pub OnCycle : (X → List X) → X → Type 0
  OnCycle next n = (m : X) × Reaches next n m × Contains (next m) n

  -- The parts are the classes of nodes that reach each other, in topological order.
  pub record AreSccs (next : X → List X) (IsNode : X → Type 0) (parts : List (Scc X)) : Type 0 where
    -- each node is in a part, in one alone, and there once; nothing else is
    pub covers : (n : X) → IsNode n → (k : ℕ) × IsInPart parts k n
    pub within : (k : ℕ) (n : X) → IsInPart parts k n → IsNode n
    pub apart : (i j : ℕ) (n : X) → IsInPart parts i n → IsInPart parts j n → i ≡ j
    pub once : (k i j : ℕ) (n : X) → slice_get (nodes_of (slice_get parts k)) i ≡ Some n → slice_get (nodes_of (slice_get parts k)) j ≡ Some n → i ≡ j
    -- two nodes are in one part exactly where paths lead both ways
    pub both_ways : (k : ℕ) (n m : X) → IsInPart parts k n → IsInPart parts k m → Reaches next n m
    pub whole : (k : ℕ) (n m : X) → IsInPart parts k n → Reaches next n m → Reaches next m n → IsInPart parts k m
    -- an edge leads within a part or to a later one
    pub topological : (i j : ℕ) (n m : X) → IsInPart parts i n → IsInPart parts j m → Contains (next n) m → i ≤ j
    pub cyclic : (k : ℕ) (n : X) → IsInPart parts k n → IsTrue (cyclic_of (slice_get parts k)) ↔ OnCycle next n
