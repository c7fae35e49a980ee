use Rattle.std.proofs.Common.{◌+◌, ◌<◌, ◌≤◌, Bool, true, false, subst, arith, rules}
use mir.Val.{bool_byte}
use Rattle.std.specs.Prelude.{Contains}
use Rattle.ir_graph.specs.Reverse.{reverse_nodes}
use Rattle.ir_graph.specs.ReverseLaws.{in_node}
use Rattle.ir_graph.proofs.reverse.ReverseGraphNodeControlFlowGraph.num_predecessors.Goals as goal

bool_small : (b : Bool) → bool_byte b ≤ 1
bool_small true = omega arith
bool_small false = omega arith

pub num_successors-requires-clause-node : goal.num_successors-requires-clause-node
num_successors-requires-clause-node g c =
    let nodes = g.G.ControlFlowGraph.nodes_of c.args.self.now.original.now c.args.ctx.now in in_node nodes c.in-Real.node (subst (Contains (reverse_nodes nodes)) c.in-Real.is c.requires.node)

pub overflow_add-result : goal.overflow_add-result
overflow_add-result g c =
    let nodes = g.G.ControlFlowGraph.nodes_of c.args.self.now.original.now c.args.ctx.now in
    let r = c.requires.graph.1.room c.in-Real.node (in_node nodes c.in-Real.node (subst (Contains (reverse_nodes nodes)) c.in-Real.is c.requires.node)) in
    let l = c.num_successors.ensures in
    let e = c.from.ensures in
    let b = bool_small c.contains.result in
    let s : c.num_successors.result + c.from.result < 18446744073709551616 = omega (arith, r, l, e, b) in
    search rules
