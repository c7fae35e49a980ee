-- Kinds of edges in a depth-first search.
use Rattle.std.specs.Prelude.{◌≡◌, ◌↔◌, List, ◌∷◌, ◌++◌, Contains}
use Rattle.digraph.specs.Visits.{Traversal, empty, Visits}
use Rattle.ir_graph.specs.declared.traversal.DFSEdgeKind.{DFSEdgeKind}
use Rattle.ir_graph.specs.declared.traversal.DFSEdgeKind.TheVariants.{Forward, Back, Cross}

-- a path from a node, none of whose nodes is in the list
pub data LeadsPast {X : Type 0} (next : X → List X) (past : List X) (a : X) : X → Type 0 where
  Begin : (Contains past a → ⊥) → LeadsPast next past a a
  Go : {b c : X} → LeadsPast next past a b → Contains (next b) c → (Contains past c → ⊥) → LeadsPast next past a c

module _ {X : Type 0} (next : X → List X) where
  -- in a search that saw the nodes in this order, b is a or descends from it: when a was first seen, a path led from it to b over
  -- nodes that weren't seen (white paths)
  abbrev pub Descends : List X → X → X → Type 0
  Descends order a b = (before after : List X) × (order ≡ before ++ a ∷ after) × LeadsPast next before a b

  -- the kind of an edge from a to b in this search: back to an ancestor or to a itself, forward to any other descendant, else across
  abbrev pub IsEdgeKind : List X → X → X → DFSEdgeKind → Type 0
  IsEdgeKind order a b Back = Descends order b a
  IsEdgeKind order a b Forward = Descends order a b × (a ≡ b → ⊥)
  IsEdgeKind order a b Cross = (Descends order a b → ⊥) × (Descends order b a → ⊥)

module _ {X : Type 0} (t : Traversal X) (a b : X) where
  -- b is a or descends from it, in every graph of which this is a search
  abbrev pub DescendsIf : Type 0 → Type 0
  DescendsIf P = (next : X → List X) (roots : List X) → Visits next empty roots t → P ↔ Descends next t.seen a b

  -- an edge from a to b is of this kind, in every graph of which this is a search
  abbrev pub HasEdgeKind : DFSEdgeKind → Type 0
  HasEdgeKind kind = (next : X → List X) (roots : List X) → Visits next empty roots t → IsEdgeKind next t.seen a b kind
