use Rattle.std.proofs.Common.{◌≡◌, ◌<◌, Some, length, sym, subst, arith}
use Rattle.std.specs.Prelude.{Contains, map, slice_get}
use Rattle.std.specs.List.{list_any}
use Rattle.ir_graph.specs.declared.reverse.ReverseNode.TheVariants.{Sentinel, Real}
use Rattle.ir_graph.specs.Reverse.{sentinel_if, reverse_nodes, reverse_predecessors}
use Rattle.ir_graph.specs.ReverseLaws.{in_node, real_at, after_real}
use Rattle.ir_graph.proofs.Places.{get_front}
use Rattle.ir_graph.proofs.reverse.ReverseGraphNodeControlFlowGraph.get_predecessor.Goals as goal

pub num_successors-requires-clause-node : goal.num_successors-requires-clause-node
num_successors-requires-clause-node g c =
    let nodes = g.G.ControlFlowGraph.nodes_of c.args.self.now.original.now c.args.ctx.now in in_node nodes c.in-Real.node (subst (Contains (reverse_nodes nodes)) c.in-Real.is c.requires.node)

pub get_successor-requires-clause-node : goal.get_successor-requires-clause-node
get_successor-requires-clause-node g c =
    let nodes = g.G.ControlFlowGraph.nodes_of c.args.self.now.original.now c.args.ctx.now in in_node nodes c.in-Real.node (subst (Contains (reverse_nodes nodes)) c.in-Real.is c.requires.node)

pub returns-then-index-num_successors : goal.returns-then-index-num_successors
returns-then-index-num_successors g c =
    let next = g.G.ControlFlowGraph.successors_of c.args.self.now.original.now c.args.ctx.now in
    let found = c.args.self.now.pre_sentinels.keys in
    let eq = g.G.Node.PartialEq.eq in
    let more = sentinel_if (list_any (eq c.in-Real.node) found) in
    subst (λ n. slice_get (reverse_predecessors eq next found n) c.args.index ≡ Some (Real c.get_successor.result)) (sym c.in-Real.is)
    (get_front (map Real (next c.in-Real.node)) more c.args.index (Real c.get_successor.result) (real_at (next c.in-Real.node) c.args.index c.get_successor.result c.get_successor.ensures))

pub returns-else-index-num_successors : goal.returns-else-index-num_successors
returns-else-index-num_successors g c =
    let next = g.G.ControlFlowGraph.successors_of c.args.self.now.original.now c.args.ctx.now in
    let found = c.args.self.now.pre_sentinels.keys in
    let eq = g.G.Node.PartialEq.eq in
    let l = c.num_successors.ensures in
    let f = c.if-index-num_successors.false in
    subst (λ n. slice_get (reverse_predecessors eq next found n) c.args.index ≡ Some Sentinel) (sym c.in-Real.is)
    (after_real (next c.in-Real.node) (list_any (eq c.in-Real.node) found) c.args.index (omega (arith, l, f)) (subst (λ n. c.args.index < length (reverse_predecessors eq next found n)) c.in-Real.is c.requires.index))
