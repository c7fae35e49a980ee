use Rattle.std.proofs.Common.{length, sym, ap, ◌∙◌, subst, arith}
use Rattle.digraph.specs.Graph.{InRange}
use Rattle.digraph.specs.Orders.{order_of}
use Rattle.ir_graph.specs.Graphs.{AreNodeNumbers}
use Rattle.ir_graph.proofs.Numbers.{rows_in, named_within}
use Rattle.ir_graph.proofs.NamedOrders.{ok_more, named_order, post_order_of}
use Rattle.digraph.specs.Visits.{empty, Visits}
use Rattle.digraph.specs.Graph.{successors}
use Rattle.ir_graph.proofs.orders.post_order.Goals as goal

pub depth_first-requires-clause-graph : goal.depth_first-requires-clause-graph
depth_first-requires-clause-graph g c =
    let n = c.in_ok-numbering.ensures in
    subst (λ rs. InRange rs) (sym c.deref.ensures.value) (rows_in (g.G.ControlFlowGraph.successors_of c.args.graph.now c.args.ctx.now) (g.G.ControlFlowGraph.nodes_of c.args.graph.now c.args.ctx.now) c.in_ok-numbering.numbering.rows.items n.len n.onward)

pub depth_first-requires-clause-roots : goal.depth_first-requires-clause-roots
depth_first-requires-clause-roots g c = λ k d h.
    let n = c.in_ok-numbering.ensures in
    let ids = c.deref-2.ensures.value in
    let l = named_within (g.G.ControlFlowGraph.nodes_of c.args.graph.now c.args.ctx.now) c.deref-2.result.now _ (subst (λ xs. AreNodeNumbers (g.G.ControlFlowGraph.nodes_of c.args.graph.now c.args.ctx.now) xs (g.G.ControlFlowGraph.nodes_of c.args.graph.now c.args.ctx.now)) (sym ids) n.named) k d h in
    omega (arith, l, n.len, ap length c.deref.ensures.value)

pub nodes_at-requires : goal.nodes_at-requires
nodes_at-requires g c =
    let n = c.in_ok-numbering.ensures in
    let r = named_order _ _ _ (g.met.G.ControlFlowGraph.distinct c.args.graph.now c.args.ctx.now c.requires) _ _ n (order_of c.in_ok-orders.orders)
    (subst (λ rs. Visits (successors rs) empty c.in_ok-numbering.numbering.numbers.items (order_of c.in_ok-orders.orders)) c.deref.ensures.value
    (subst (λ ns. Visits (successors c.deref.result.now) empty ns (order_of c.in_ok-orders.orders)) c.deref-2.ensures.value c.in_ok-orders.ensures)) in
    (r.0.left, subst (λ ks. AreNodeNumbers ks c.deref-4.result.now r.0.left) (sym (c.deref-3.ensures.value ∙ n.all)) (subst (λ xs. AreNodeNumbers (g.G.ControlFlowGraph.nodes_of c.args.graph.now c.args.ctx.now) xs r.0.left) (sym c.deref-4.ensures.value) r.1.left))

pub returns : goal.returns
returns g c =
    let n = c.in_ok-numbering.ensures in
    ok_more c.nodes_at.result (λ row e. post_order_of _ _ _ (g.met.G.ControlFlowGraph.distinct c.args.graph.now c.args.ctx.now c.requires) _ _ n (order_of c.in_ok-orders.orders)
    (subst (λ rs. Visits (successors rs) empty c.in_ok-numbering.numbering.numbers.items (order_of c.in_ok-orders.orders)) c.deref.ensures.value
    (subst (λ ns. Visits (successors c.deref.result.now) empty ns (order_of c.in_ok-orders.orders)) c.deref-2.ensures.value c.in_ok-orders.ensures))
    row.items (subst (λ ks. AreNodeNumbers ks c.in_ok-orders.orders.post.items row.items) (c.deref-3.ensures.value ∙ n.all) (subst (λ xs. AreNodeNumbers c.deref-3.result.now xs row.items) c.deref-4.ensures.value e)))
    c.nodes_at.ensures
