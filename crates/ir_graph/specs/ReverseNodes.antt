-- Nodes of a graph whose edges are turned round.
use Rattle.std.specs.Prelude.{◌≡◌, ℕ, List, Option, None, Some, codes}
use Rattle.ir_graph.specs.declared.reverse.ReverseNode.{ReverseNode}
use Rattle.ir_graph.specs.declared.reverse.ReverseNode.TheVariants.{Sentinel, Real}

-- the node of the original graph, if it is one
abbrev pub real_of : {X : Type 0} → ReverseNode X → Option X
real_of Sentinel = None
real_of (Real n) = Some n

-- a fact of the node of the original graph, if it is one
abbrev pub OfReal : {X : Type 0} → (X → Type 0) → ReverseNode X → Type 0
OfReal P Sentinel = Unit {0}
OfReal P (Real n) = P n

-- its label: that of the node of the original graph, or a text of its own
abbrev pub IsReverseLabel : {X : Type 0} → (X → List ℕ → Type 0) → ReverseNode X → List ℕ → Type 0
IsReverseLabel P Sentinel text = text ≡ codes "sentinel"
IsReverseLabel P (Real n) text = P n text
