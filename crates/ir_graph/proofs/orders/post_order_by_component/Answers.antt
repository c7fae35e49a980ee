use Rattle.std.proofs.Common.{sym, ◌∙◌, subst}
use Rattle.digraph.specs.Visits.{IsPostOrderApart}
use Rattle.ir_graph.specs.Graphs.{AreNodeNumbers, AreNamedParts}
use Rattle.ir_graph.specs.Orders.{lists_of}
use Rattle.ir_graph.proofs.NamedOrders.{ok_more, graph_in, roots_in}
use Rattle.ir_graph.proofs.NamedParts.{one_naming_parts, parts_named}
use Rattle.ir_graph.proofs.orders.post_order_by_component.Goals as goal

pub post_order_apart-requires-clause-graph : goal.post_order_apart-requires-clause-graph
post_order_apart-requires-clause-graph g c = graph_in _ _ _ (g.met.G.ControlFlowGraph.distinct c.args.graph.now c.args.ctx.now c.requires) _ _ c.in_ok-numbering.ensures c.deref.result.now c.deref.ensures.value

pub post_order_apart-requires-clause-roots : goal.post_order_apart-requires-clause-roots
post_order_apart-requires-clause-roots g c =
    let nodes = g.G.ControlFlowGraph.nodes_of c.args.graph.now c.args.ctx.now in
    roots_in _ _ _ (g.met.G.ControlFlowGraph.distinct c.args.graph.now c.args.ctx.now c.requires) _ _ c.in_ok-numbering.ensures c.deref.result.now c.deref-2.result.now nodes c.deref.ensures.value
    (subst (λ ids. AreNodeNumbers nodes ids nodes) (sym c.deref-2.ensures.value) c.in_ok-numbering.ensures.named)

pub parts_at-requires : goal.parts_at-requires
parts_at-requires g c =
    let n = c.in_ok-numbering.ensures in
    let r = parts_named _ _ _ (g.met.G.ControlFlowGraph.distinct c.args.graph.now c.args.ctx.now c.requires) _ _ n c.deref.result.now c.deref-2.result.now (lists_of c.in_ok-parts.parts.items) c.deref.ensures.value c.deref-2.ensures.value c.in_ok-parts.ensures in (
      r.0,
      subst (λ ks. AreNamedParts ks (lists_of c.deref-4.result.now) r.0) (sym (c.deref-3.ensures.value ∙ n.all))
          (subst (λ ps. AreNamedParts (g.G.ControlFlowGraph.nodes_of c.args.graph.now c.args.ctx.now) (lists_of ps) r.0) (sym c.deref-4.ensures.value) r.1),
    )

pub returns : goal.returns
returns g c =
    let n = c.in_ok-numbering.ensures in
    let r = parts_named _ _ _ (g.met.G.ControlFlowGraph.distinct c.args.graph.now c.args.ctx.now c.requires) _ _ n c.deref.result.now c.deref-2.result.now (lists_of c.in_ok-parts.parts.items) c.deref.ensures.value c.deref-2.ensures.value c.in_ok-parts.ensures in
    ok_more c.parts_at.result (λ rows e. subst (λ ps. IsPostOrderApart (g.G.ControlFlowGraph.successors_of c.args.graph.now c.args.ctx.now) (g.G.ControlFlowGraph.nodes_of c.args.graph.now c.args.ctx.now) ps)
    (one_naming_parts r.0 (lists_of rows.items) (sym r.1
    ∙ subst (λ ks. AreNamedParts ks (lists_of c.in_ok-parts.parts.items) (lists_of rows.items)) (c.deref-3.ensures.value ∙ n.all)
    (subst (λ ps. AreNamedParts c.deref-3.result.now (lists_of ps) (lists_of rows.items)) c.deref-4.ensures.value e)))
    r.2)
    c.parts_at.ensures
