use Rattle.std.proofs.Common.{length, sym, subst}
use Rattle.digraph.specs.Graph.{successors, InRange}
use Rattle.digraph.specs.Transpose.{AreTransposed}
use Rattle.ir_graph.specs.Reverse.{CanReverse}
use Rattle.edge_graphs.specs.Numbers.{numbers}
use Rattle.edge_graphs.specs.declared.edges.Edges.{Edges}
use Rattle.ir_tests.proofs.reverse.reversed.Goals as goal

pub rows_of-requires : goal.rows_of-requires
rows_of-requires c = (
  subst (λ (g : Edges). InRange g.rows.items × AreTransposed g.rows.items g.back.items) (sym c.in_ok-reverse.ensures.original) c.in_ok-graph.ensures,
  subst (λ (g : Edges). CanReverse (successors g.rows.items) (numbers (length g.rows.items)) c.in_ok-reverse.reverse.pre_sentinels.keys) (sym c.in_ok-reverse.ensures.original) c.in_ok-reverse.ensures.found,
)
