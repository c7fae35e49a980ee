use Rattle.std.proofs.Common.{◌≡◌, ◌<◌, Some, length, get_or, refl, sym, subst}
use Rattle.std.proofs.lemmas.List.{length-map}
use Rattle.std.proofs.lemmas.Option.{slice_get_read}
use Rattle.std.specs.Prelude.{Contains, slice_get}
use Rattle.ir_graph.specs.declared.reverse.ReverseNode.TheVariants.{Real}
use Rattle.ir_graph.specs.Reverse.{reverse_nodes, reverse_successors}
use Rattle.ir_graph.specs.ReverseLaws.{in_node, real_at}
use Rattle.ir_graph.proofs.reverse.ReverseGraphNodeControlFlowGraph.get_successor.Goals as goal

pub get_predecessor-requires-clause-node : goal.get_predecessor-requires-clause-node
get_predecessor-requires-clause-node g c =
    let nodes = g.G.ControlFlowGraph.nodes_of c.args.self.now.original.now c.args.ctx.now in in_node nodes c.in-Real.node (subst (Contains (reverse_nodes nodes)) c.in-Real.is c.requires.node)

pub returns-in-Sentinel : goal.returns-in-Sentinel
returns-in-Sentinel g c =
    let previous = g.G.ControlFlowGraph.predecessors_of c.args.self.now.original.now c.args.ctx.now in
    let found = c.args.self.now.pre_sentinels.keys in
    let here = simp length-map at (subst (λ n. c.args.index < length (reverse_successors previous found n)) c.in-Sentinel.is c.requires.index) in
    subst (λ n. slice_get (reverse_successors previous found n) c.args.index ≡ Some (Real c.index-as_slice-index.result)) (sym c.in-Sentinel.is)
    (real_at found c.args.index c.index-as_slice-index.result (slice_get_read found (length found) c.args.index c.index-as_slice-index.result refl here
    (subst (λ xs. c.index-as_slice-index.result ≡ get_or xs c.args.index c.index-as_slice-index.result) c.as_slice.ensures.keys c.index-as_slice-index.is)))

pub returns-in-Real : goal.returns-in-Real
returns-in-Real g c =
    let previous = g.G.ControlFlowGraph.predecessors_of c.args.self.now.original.now c.args.ctx.now in
    subst (λ n. slice_get (reverse_successors previous c.args.self.now.pre_sentinels.keys n) c.args.index ≡ Some (Real c.get_predecessor.result)) (sym c.in-Real.is)
    (real_at (previous c.in-Real.node) c.args.index c.get_predecessor.result c.get_predecessor.ensures)
