use Rattle.std.proofs.Common.{ℕ, Vec, Global, sym, subst}
use Rattle.digraph.specs.Graph.{InRange}
use Rattle.edge_graphs.proofs.edges.graph_of.Goals as goal
use Rattle.edge_graphs.proofs.edges.graph_of.Goals.{then-from-len+then-to-len+in_ok-add_edge, else-from-len}

pub loop-from-preserved : goal.loop-from-preserved
loop-from-preserved c = elim c.if-from-len.branch [
  | then-from-len+then-to-len+in_ok-add_edge w ↦ subst (λ (v : Vec (Vec ℕ Global) Global). InRange v.items) (sym w.rows-is) w.in_ok-add_edge.ensures
  | else-from-len w ↦ subst (λ (v : Vec (Vec ℕ Global) Global). InRange v.items) (sym w.rows-is) c.loop-from.invariant
]

pub transposed-requires : goal.transposed-requires
transposed-requires c = subst InRange (sym c.deref.ensures.value) c.loop-from.invariant
